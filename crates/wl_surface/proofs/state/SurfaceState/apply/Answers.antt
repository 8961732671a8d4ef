use Rattle.wl_surface.proofs.Records.{For-applied}
use Rattle.wl_surface.proofs.Says.{says-held}
use Rattle.wl_surface.proofs.state.SurfaceState.apply.Goals as goal

pub returns-clause-stands : goal.returns-clause-stands
returns-clause-stands g c = λ s u.
    let given = rw (← c.self.view_is) at u in
    let applied = For-applied _ s given in
    rw (c.apply_input.ensures, c.apply_opaque.ensures, c.take-damage.ensures.rects, c.take-damage.ensures.buffer_rects) applied

pub returns-clause-damage : goal.returns-clause-damage
returns-clause-damage g c = λ s u.
    let given = rw (← c.self.view_is) at u in
    says-held _ s.history given.history c.take-damage.result.items c.shape_of-shape.result.w c.shape_of-shape.result.h c.shape_of-shape.ensures.width c.shape_of-shape.ensures.height
    c.take-damage.ensures.count (rw (c.shape_of-shape.ensures.transform, c.shape_of-shape.ensures.scale) at c.take-damage.ensures.points)
