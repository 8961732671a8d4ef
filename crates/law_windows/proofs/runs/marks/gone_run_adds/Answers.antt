use Rattle.law_windows.proofs.OneToplevel.Gone.{gone-run-adds}
use Rattle.law_windows.proofs.runs.marks.gone_run_adds.Goals as goal

pub returns : goal.returns
returns g c = gone-run-adds _
