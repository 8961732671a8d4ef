use Rattle.law_desktop.proofs.TreeSteps.Descents.{no-child-is-top}
use Rattle.law_desktop.proofs.invariants.tree_steps.no_child_is_top.Goals as goal

pub returns : goal.returns
returns c = no-child-is-top
