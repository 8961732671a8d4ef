use Rattle.wl_wire.proofs.Found.{no_proper_prefix}
use Rattle.wl_wire.proofs.has_no_proper_prefix.Goals as goal

pub returns : goal.returns
returns c = no_proper_prefix
