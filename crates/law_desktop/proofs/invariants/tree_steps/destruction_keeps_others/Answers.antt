use Rattle.law_desktop.proofs.TreeSteps.Ends.{destruction-keeps-others}
use Rattle.law_desktop.proofs.invariants.tree_steps.destruction_keeps_others.Goals as goal

pub returns : goal.returns
returns c = destruction-keeps-others
