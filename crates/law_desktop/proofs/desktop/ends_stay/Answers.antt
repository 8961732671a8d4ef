use Rattle.law_desktop.proofs.Runs.Stays.{ends_stay}
use Rattle.law_desktop.proofs.desktop.ends_stay.Goals as goal

pub returns : goal.returns
returns c = ends_stay
