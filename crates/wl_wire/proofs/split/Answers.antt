use Rattle.std.proofs.Common.{rules}
use Rattle.wl_wire.proofs.split.Goals as goal

pub returns-then-bytes-size : goal.returns-then-bytes-size
returns-then-bytes-size c = search rules

pub returns-else-bytes-size : goal.returns-else-bytes-size
returns-else-bytes-size c = search rules
