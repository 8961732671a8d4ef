use Rattle.std.proofs.Common.{rules, arith}
use Rattle.std.proofs.lemmas.Grind.{common_steps}
use Rattle.wl_paint.proofs.filling.write_color.Goals as goal

pub returns-clause-written : goal.returns-clause-written
returns-clause-written c = search rules

pub returns-clause-others : goal.returns-clause-others
returns-clause-others c = grind (arith, common_steps)
