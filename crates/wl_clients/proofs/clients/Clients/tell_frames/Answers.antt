use Rattle.std.proofs.Common.{ap, refl, ◌∙◌, sym, ◌-◌}
use Rattle.std.proofs.lemmas.List.{length-set}
use Rattle.wl_clients.specs.Agreement.{numbers_in}
use Rattle.wl_clients.specs.View.{MarkedDesk, pile_of}
use Rattle.wl_clients.specs.Residents.{client_views}
use Rattle.wl_clients.proofs.Framing.{here-told, tells-nobody}
use Rattle.wl_clients.proofs.Seats.{as-large, here-at, missing}
use Rattle.wl_clients.proofs.clients.Clients.tell_frames.Goals as goal

pub returns-in_default-clause-tells : goal.returns-in_default-clause-tells
returns-in_default-clause-tells g c =
    let pile = pile_of c.self.inside.screen in
    tells-nobody c.args.time c.args.client _ _ _ (missing c.self.inside.output c.self.inside.residents.items pile c.self.inside.screen.damage _ _ _ refl (sym c.in_default.ensures.value) c.self.view_is)
    c.self.view_is c.self.view_is c.self.invariant.1

pub returns-clause-tells : goal.returns-clause-tells
returns-clause-tells g c =
    let pile = pile_of c.self.inside.screen in
    λ d a.
    rw (← c.self.view_is) (here-told c.args.time c.self.inside.output c.self.inside.residents.items pile c.args.client (c.args.client - 1) c.in-Some.resident.now
    (here-at c.self.inside.residents.items c.args.client c.in-Some.resident.now c.in-Some.ensures.value) d c.self.inside.screen.damage c.self.invariant.1 (rw (← c.self.view_is) at a)
    c.tell_frames.new.resident (pile_of c.tell_frames.new.self) c.tell_frames.new.self.damage (c.tell_frames.ensures.tells (numbers_in (client_views c.self.inside.residents.items)) d d)
    c.tell_frames.ensures.marks c.tell_frames.ensures.idle)

pub returns-in_default-clause-sides : goal.returns-in_default-clause-sides
returns-in_default-clause-sides g c = as-large _ _ c.self.view_is

pub returns-in_default-clause-output : goal.returns-in_default-clause-output
returns-in_default-clause-output g c = ap (λ (m : MarkedDesk). m.desk.output) c.self.view_is

pub returns-clause-sides : goal.returns-clause-sides
returns-clause-sides g c = rw (← c.self.view_is) c.tell_frames.ensures.sides

pub returns-clause-output : goal.returns-clause-output
returns-clause-output g c = ap (λ (m : MarkedDesk). m.desk.output) c.self.view_is

pub invariant_of-self-2 : goal.invariant_of-self-2
invariant_of-self-2 g c =
    (length-set _ _ _ ∙ c.self.invariant.0, (c.tell_frames.ensures.sides.width ∙ c.self.invariant.1.0, c.tell_frames.ensures.sides.height ∙ c.self.invariant.1.1))

pub invariant_of-self : goal.invariant_of-self
invariant_of-self g c = c.self.invariant
