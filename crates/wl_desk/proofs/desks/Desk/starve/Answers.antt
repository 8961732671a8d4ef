use Rattle.std.proofs.Common.{map}
use Rattle.wl_desk.proofs.Calls.{starves}
use Rattle.wl_desk.proofs.desks.Desk.starve.Goals as goal

pub returns-clause-leads : goal.returns-clause-leads
returns-clause-leads g c =
    rw (← c.self.view_is) (λ new settles.
    starves c.args.client c.self.inside.clients c.starve.new.self (map (λ s. s.items) c.self.inside.seats.items) c.self.inside.latest.items c.self.inside.pointer c.forget.new.self new
    c.starve.ensures.leads c.starve.ensures.sides c.forget.ensures settles)

pub returns-clause-sides : goal.returns-clause-sides
returns-clause-sides g c = rw (← c.self.view_is) c.starve.ensures.sides

pub returns-clause-output : goal.returns-clause-output
returns-clause-output g c = rw (← c.self.view_is) c.starve.ensures.output
