use Rattle.law_desktop.proofs.Marks.Painted.{scratch_stays}
use Rattle.law_desktop.proofs.desktop.scratch_stays.Goals as goal

pub returns : goal.returns
returns c = scratch_stays
