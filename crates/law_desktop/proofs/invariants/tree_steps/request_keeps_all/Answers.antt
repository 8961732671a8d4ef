use Rattle.law_desktop.proofs.TreeSteps.Commits.{request-keeps-all}
use Rattle.law_desktop.proofs.invariants.tree_steps.request_keeps_all.Goals as goal

pub returns : goal.returns
returns c = request-keeps-all
