use Rattle.wl_shell.proofs.Dismissing.{dismissals_end}
use Rattle.wl_shell.proofs.dismissals_end.Goals as goal

pub returns : goal.returns
returns c = dismissals_end
