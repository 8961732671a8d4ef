use Rattle.law_desktop.proofs.TreeSteps.Commits.{role-keeps-all}
use Rattle.law_desktop.proofs.invariants.tree_steps.role_keeps_all.Goals as goal

pub returns : goal.returns
returns c = role-keeps-all
