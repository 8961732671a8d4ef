use Rattle.std.proofs.Common.{rules}
use Rattle.wl_wire.proofs.reading.Args.fixed.Goals as goal

pub returns-clause-exact : goal.returns-clause-exact
returns-clause-exact c = search rules

pub returns-clause-spelled : goal.returns-clause-spelled
returns-clause-spelled c = search rules
