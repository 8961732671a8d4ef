use Rattle.std.proofs.Common.{refl, sym}
use Rattle.wl_surface.proofs.states.any_has.Goals as goal

pub returns-then-has : goal.returns-then-has
returns-then-has g c = rw (c.loop-kept.invariant.2, c.in-Some.ensures.steps, sym c.if-has.ensures) refl
