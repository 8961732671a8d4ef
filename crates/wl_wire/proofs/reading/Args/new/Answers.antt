use Rattle.std.proofs.Common.{rules}
use Rattle.wl_wire.proofs.reading.Args.new.Goals as goal

pub returns : goal.returns
returns c = search rules
