use Rattle.law_desktop.proofs.TreeSteps.Others.{other-trees-stay}
use Rattle.law_desktop.proofs.invariants.tree_steps.other_trees_stay.Goals as goal

pub returns : goal.returns
returns c = other-trees-stay
