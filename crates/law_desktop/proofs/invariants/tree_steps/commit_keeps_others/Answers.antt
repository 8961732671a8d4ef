use Rattle.law_desktop.proofs.TreeSteps.Commits.{commit-keeps-others}
use Rattle.law_desktop.proofs.invariants.tree_steps.commit_keeps_others.Goals as goal

pub returns : goal.returns
returns c = commit-keeps-others
