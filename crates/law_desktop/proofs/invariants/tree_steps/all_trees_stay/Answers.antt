use Rattle.law_desktop.proofs.TreeSteps.Staying.{all-trees-stay}
use Rattle.law_desktop.proofs.invariants.tree_steps.all_trees_stay.Goals as goal

pub returns : goal.returns
returns c = all-trees-stay
