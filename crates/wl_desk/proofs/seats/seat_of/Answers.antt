use Rattle.std.proofs.Common.{◌∙◌}
use Rattle.wl_desk.proofs.Numbers.{seat-found}
use Rattle.wl_desk.proofs.seats.seat_of.Goals as goal

pub returns-in-Some : goal.returns-in-Some
returns-in-Some g c =
    c.deref.ensures.value
    ∙ seat-found (λ s. s.items) c.args.seats.now c.args.client c.in-Some.seat.now c.if-client-eq0.false c.in-Some.ensures.lookup.0 c.in-Some.ensures.lookup.1
