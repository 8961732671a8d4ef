use Rattle.law_desktop.proofs.Marks.Bounds.{least_is_most}
use Rattle.law_desktop.proofs.desktop.least_is_most.Goals as goal

pub returns : goal.returns
returns c = least_is_most
