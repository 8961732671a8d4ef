use Rattle.std.proofs.Common.{arith}
use Rattle.std.proofs.lemmas.Grind.{common_steps}
use Rattle.wl_wire.proofs.reading.Args.uint.Goals as goal

pub returns-clause-exact : goal.returns-clause-exact
returns-clause-exact c = grind (arith, common_steps)

pub returns-clause-spelled : goal.returns-clause-spelled
returns-clause-spelled c = grind (arith, common_steps)
