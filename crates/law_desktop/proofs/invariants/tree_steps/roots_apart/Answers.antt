use Rattle.law_desktop.proofs.TreeSteps.Descents.{roots-apart}
use Rattle.law_desktop.proofs.invariants.tree_steps.roots_apart.Goals as goal

pub returns : goal.returns
returns c = roots-apart
