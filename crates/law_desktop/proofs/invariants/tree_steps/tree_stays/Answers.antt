use Rattle.law_desktop.proofs.TreeSteps.Staying.{tree-stays}
use Rattle.law_desktop.proofs.invariants.tree_steps.tree_stays.Goals as goal

pub returns : goal.returns
returns c = tree-stays
