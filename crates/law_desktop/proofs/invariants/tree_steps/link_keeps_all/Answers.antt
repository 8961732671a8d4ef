use Rattle.law_desktop.proofs.TreeSteps.Coming.{link-keeps-all}
use Rattle.law_desktop.proofs.invariants.tree_steps.link_keeps_all.Goals as goal

pub returns : goal.returns
returns c = link-keeps-all
