use Rattle.law_desktop.proofs.Runs.Output.{happens-output}
use Rattle.wl_session.proofs.laws.output_stays.Goals as goal

pub returns : goal.returns
returns c = happens-output
