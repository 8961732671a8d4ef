use Rattle.law_desktop.proofs.Runs.OneRun.{one_run}
use Rattle.law_desktop.proofs.desktop.one_run.Goals as goal

pub returns : goal.returns
returns c = one_run
