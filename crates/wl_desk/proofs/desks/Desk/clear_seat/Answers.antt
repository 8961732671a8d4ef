use Rattle.wl_desk.proofs.Clearing.{seat-cleared, seat-other}
use Rattle.wl_desk.proofs.desks.Desk.clear_seat.Goals as goal

pub returns-clause-cleared : goal.returns-clause-cleared
returns-clause-cleared g c = seat-cleared (λ s. s.items) c.self.inside.seats.items c.args.client c.in-Some.k c.clear.new.self c.in-Some.ensures.some.0 c.clear.ensures.items

pub returns-clause-others : goal.returns-clause-others
returns-clause-others g c =
    rw (← c.self.view_is) (seat-other (λ s. s.items) c.self.inside.seats.items c.args.client c.in-Some.k c.clear.new.self c.in-Some.ensures.some.0)
