use Rattle.wl_shell.proofs.Serials.{acknowledgement_forgets}
use Rattle.wl_shell.proofs.acknowledgement_forgets.Goals as goal

pub returns : goal.returns
returns c = acknowledgement_forgets
