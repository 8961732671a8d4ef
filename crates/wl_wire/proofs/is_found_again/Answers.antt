use Rattle.wl_wire.proofs.Found.{found}
use Rattle.wl_wire.proofs.is_found_again.Goals as goal

pub returns : goal.returns
returns c = found
