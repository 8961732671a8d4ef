use Rattle.law_desktop.proofs.Runs.Settled.{focus-is-settled}
use Rattle.law_desktop.proofs.desktop.focus_is_settled.Goals as goal

pub returns : goal.returns
returns c = focus-is-settled
