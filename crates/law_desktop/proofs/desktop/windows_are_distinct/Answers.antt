use Rattle.law_desktop.proofs.Soundness.Distinct.{windows_are_distinct}
use Rattle.law_desktop.proofs.desktop.windows_are_distinct.Goals as goal

pub returns : goal.returns
returns c = windows_are_distinct
