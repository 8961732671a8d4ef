use Rattle.law_desktop.proofs.TreeSteps.Damage.{applies-nothing}
use Rattle.law_desktop.proofs.invariants.tree_steps.applies_nothing.Goals as goal

pub returns : goal.returns
returns c = applies-nothing
