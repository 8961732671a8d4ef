use Rattle.std.proofs.Common.{ap, map, refl, subst, sym, ◌∙◌}
use Rattle.wl_paint.specs.Damage.{Damaged}
use Rattle.wl_scene.specs.Marking.{IsAsLarge}
use Rattle.wl_clients.specs.View.{DeskView}
use Rattle.wl_desk.proofs.Calls.{frames}
use Rattle.wl_desk.proofs.desks.Desk.frames.Goals as goal

pub returns-clause-leads : goal.returns-clause-leads
returns-clause-leads g c =
    let over = c.forget_ended.ensures in
    rw (← c.self.view_is) (λ ended new ends settles.
    frames c.args.time c.self.inside.clients c.frames.new.self (map (λ s. s.items) c.self.inside.seats.items) c.self.inside.latest.items c.self.inside.pointer _ ended new
    c.frames.ensures.leads c.frames.ensures.sides (rw (← c.self-2.view_is) at over.kept) (rw (← c.self-2.view_is) at over.seats) (rw (← c.self-2.view_is) at over.latest)
    (rw (← c.self-2.view_is) at over.damage) (rw (← c.self-2.view_is) at over.left) refl ends settles)

pub returns-clause-sides : goal.returns-clause-sides
returns-clause-sides g c =
    rw (← c.self.view_is) (subst (λ (w : Damaged). IsAsLarge c.self.inside.clients.damage w) (sym (rw (← c.self-2.view_is) at c.forget_ended.ensures.damage)) c.frames.ensures.sides)

pub returns-clause-output : goal.returns-clause-output
returns-clause-output g c =
    rw (← c.self.view_is) (ap (λ (v : DeskView). v.output) (rw (← c.self-2.view_is) at c.forget_ended.ensures.kept) ∙ c.frames.ensures.output)
