use Rattle.wl_session.proofs.Promised.{promises_are_enough}
use Rattle.wl_session.proofs.laws.promises_are_enough.Goals as goal

pub returns : goal.returns
returns c = promises_are_enough
