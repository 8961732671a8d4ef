use Rattle.std.proofs.Common.{refl, sym}
use Rattle.wl_surface.proofs.states.any_shows.Goals as goal

pub returns-then-shows : goal.returns-then-shows
returns-then-shows g c = rw (c.loop-kept.invariant.2, c.in-Some.ensures.steps, sym c.if-shows.ensures) refl
