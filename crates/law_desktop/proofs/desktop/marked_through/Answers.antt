use Rattle.law_desktop.proofs.Marks.Through.{marked_through}
use Rattle.law_desktop.proofs.desktop.marked_through.Goals as goal

pub returns : goal.returns
returns c = marked_through
