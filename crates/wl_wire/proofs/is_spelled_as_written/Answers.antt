use Rattle.wl_wire.proofs.ReadAgain.{spelled_as_written}
use Rattle.wl_wire.proofs.is_spelled_as_written.Goals as goal

pub returns : goal.returns
returns c = spelled_as_written
