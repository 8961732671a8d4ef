use Rattle.wl_wire.proofs.ReadAgain.{read_as_spelled}
use Rattle.wl_wire.proofs.is_read_as_spelled.Goals as goal

pub returns : goal.returns
returns c = read_as_spelled
