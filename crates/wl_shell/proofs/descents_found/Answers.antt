use Rattle.wl_shell.proofs.Descending.{descents_found}
use Rattle.wl_shell.proofs.descents_found.Goals as goal

pub returns : goal.returns
returns c = descents_found
