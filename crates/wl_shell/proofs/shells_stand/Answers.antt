use Rattle.wl_shell.proofs.Shells.{shells_stand}
use Rattle.wl_shell.proofs.shells_stand.Goals as goal

pub returns : goal.returns
returns c = shells_stand
