use Rattle.std.proofs.Common.{refl}
use Rattle.wl_surface.proofs.applied.apply_change.Goals as goal

pub returns-clause-change : goal.returns-clause-change
returns-clause-change g c = λ s u. record { surface = refl; damage = c.apply-rects.ensures.damage s u }
