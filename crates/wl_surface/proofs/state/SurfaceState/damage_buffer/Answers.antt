use Rattle.std.proofs.Common.{arith}
use Rattle.wl_surface.proofs.Records.{For-damaged-buffer, For-undamaged-buffer}
use Rattle.wl_surface.proofs.state.SurfaceState.damage_buffer.Goals as goal

pub returns-in_ok-push-clause-ok : goal.returns-in_ok-push-clause-ok
returns-in_ok-push-clause-ok g c = λ s u.
    let few = c.if-len-lt-MAX_KEPT.true in
    rw c.in_ok-push.ensures.items (For-damaged-buffer _ s c.args.rect (rw (← c.self.view_is) at u) (omega (arith, few, c.len.ensures)))

pub returns-else-len-lt-MAX_KEPT-clause-ok : goal.returns-else-len-lt-MAX_KEPT-clause-ok
returns-else-len-lt-MAX_KEPT-clause-ok g c = λ s u.
    let many = c.if-len-lt-MAX_KEPT.false in
    rw (← c.self.view_is) (For-undamaged-buffer _ s c.args.rect (rw (← c.self.view_is) at u) (omega (arith, many, c.len.ensures)))
