use Rattle.law_windows.proofs.RepaintLaw.{same-as-records}
use Rattle.law_windows.proofs.repainting.same_as_records.Goals as goal

pub returns : goal.returns
returns c = same-as-records
