use Rattle.law_desktop.proofs.Runs.OnlyRun.{only_run}
use Rattle.law_desktop.proofs.desktop.only_run.Goals as goal

pub returns : goal.returns
returns c = only_run
