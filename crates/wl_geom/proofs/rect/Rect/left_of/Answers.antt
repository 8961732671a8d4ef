use Rattle.std.proofs.Common.{arith}
use Rattle.std.proofs.lemmas.Int.{to_z-of_z}
use Rattle.wl_geom.proofs.rect.Rect.left_of.Goals as goal

pub returns-clause-points : goal.returns-clause-points
returns-clause-points c x y = grind (arith, to_z-of_z, c.len_before-w.ensures.points x)
