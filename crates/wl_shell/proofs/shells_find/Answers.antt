use Rattle.wl_shell.proofs.Reading.{shells_find}
use Rattle.wl_shell.proofs.shells_find.Goals as goal

pub returns : goal.returns
returns c = shells_find
