use Rattle.law_desktop.proofs.TreeSteps.Modes.{mode-keeps-all}
use Rattle.law_desktop.proofs.invariants.tree_steps.mode_keeps_all.Goals as goal

pub returns : goal.returns
returns c = mode-keeps-all
