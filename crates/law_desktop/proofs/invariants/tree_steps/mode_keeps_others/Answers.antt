use Rattle.law_desktop.proofs.TreeSteps.Modes.{mode-keeps-others}
use Rattle.law_desktop.proofs.invariants.tree_steps.mode_keeps_others.Goals as goal

pub returns : goal.returns
returns c = mode-keeps-others
