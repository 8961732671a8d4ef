use Rattle.law_desktop.proofs.TreeSteps.Ends.{end-keeps-others}
use Rattle.law_desktop.proofs.invariants.tree_steps.end_keeps_others.Goals as goal

pub returns : goal.returns
returns c = end-keeps-others
