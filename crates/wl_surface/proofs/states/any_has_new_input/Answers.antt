use Rattle.std.proofs.Common.{refl, sym}
use Rattle.wl_surface.proofs.states.any_has_new_input.Goals as goal

pub returns-then-has_new_input : goal.returns-then-has_new_input
returns-then-has_new_input g c = rw (c.loop-kept.invariant.2, c.in-Some.ensures.steps, sym c.if-has_new_input.ensures) refl
