use Rattle.std.proofs.Common.{rules}
use Rattle.wl_wire.proofs.reading.Args.finish.Goals as goal

pub returns-else-is_empty-clause-ok : goal.returns-else-is_empty-clause-ok
returns-else-is_empty-clause-ok c = search rules
