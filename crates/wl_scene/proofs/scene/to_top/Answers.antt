use Rattle.std.proofs.Common.{rules, arith}
use Rattle.std.proofs.lemmas.Grind.{common_steps}
use Rattle.wl_scene.proofs.scene.to_top.Goals as goal

pub returns-clause-len : goal.returns-clause-len
returns-clause-len c = search rules

pub returns-clause-top : goal.returns-clause-top
returns-clause-top c = grind (arith, common_steps)
