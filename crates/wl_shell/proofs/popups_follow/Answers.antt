use Rattle.wl_shell.proofs.InOrder.{popups_follow}
use Rattle.wl_shell.proofs.popups_follow.Goals as goal

pub returns : goal.returns
returns c = popups_follow
