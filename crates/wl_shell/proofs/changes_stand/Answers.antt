use Rattle.wl_shell.proofs.Standing.{changes_stand}
use Rattle.wl_shell.proofs.changes_stand.Goals as goal

pub returns : goal.returns
returns c = changes_stand
