use Rattle.law_desktop.proofs.TreeSteps.Descents.{has-root}
use Rattle.law_desktop.proofs.invariants.tree_steps.has_root.Goals as goal

pub returns : goal.returns
returns c = has-root
