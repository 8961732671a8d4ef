use Rattle.law_desktop.proofs.Runs.Settled.{acts-are-few}
use Rattle.law_desktop.proofs.desktop.acts_are_few.Goals as goal

pub returns : goal.returns
returns c = acts-are-few
