use Rattle.std.proofs.Common.{rules, arith}
use Rattle.std.proofs.lemmas.Grind.{common_steps}
use Rattle.wl_blend.proofs.run.write_rgb.Goals as goal

pub returns-clause-written : goal.returns-clause-written
returns-clause-written c = search rules

pub returns-clause-fourth : goal.returns-clause-fourth
returns-clause-fourth c = search rules

pub returns-clause-others : goal.returns-clause-others
returns-clause-others c = grind (arith, common_steps)

pub returns-clause-other_fourths : goal.returns-clause-other_fourths
returns-clause-other_fourths c = search rules
