use Rattle.std.proofs.Common.{ap, refl, ◌∙◌, sym, ◌-◌}
use Rattle.std.proofs.lemmas.List.{length-set}
use Rattle.wl_clients.specs.Agreement.{numbers_in}
use Rattle.wl_clients.specs.View.{MarkedDesk, pile_of}
use Rattle.wl_clients.proofs.Midway.{mid-missing, mid-still, tells-kept, told-numbers}
use Rattle.wl_clients.proofs.Rests.{rest-no-more, rest-unput, told-no-more}
use Rattle.wl_clients.proofs.Seats.{here-at}
use Rattle.wl_clients.proofs.clients.Clients.tell.Goals as goal

pub returns-in_default-clause-tells : goal.returns-in_default-clause-tells
returns-in_default-clause-tells g c = λ change events m mid so.
    let pile = pile_of c.self.inside.screen in
    mid-still _ c.args.self.now c.self.view_is change events c.args.client m
    (mid-missing c.self.inside.output c.self.inside.residents.items pile c.self.inside.screen.damage _ c.args.self.now c.args.client refl (sym c.in_default.ensures.value) c.self.view_is change events m mid)

pub returns-clause-tells : goal.returns-clause-tells
returns-clause-tells g c = λ change events m mid so.
    let pile = pile_of c.self.inside.screen in
    tells-kept c.self.inside.output c.self.inside.residents.items pile c.args.client (c.args.client - 1) c.in-Some.resident.now
    (here-at c.self.inside.residents.items c.args.client c.in-Some.resident.now c.in-Some.ensures.value) m (rw (← c.self.view_is) at mid)
    c.args.event c.args.pointers.now change events so c.tell_to.new.resident c.tell_to.ensures.rest c.tell_to.ensures.told

pub returns-in_default-clause-rests : goal.returns-in_default-clause-rests
returns-in_default-clause-rests g c =
    let pile = pile_of c.self.inside.screen in
    rest-unput c.args.self.now _ c.self.view_is

pub returns-clause-rests : goal.returns-clause-rests
returns-clause-rests g c = λ other.
    rw (← c.self.view_is) (rest-no-more c.self.inside.output c.self.inside.residents.items (pile_of c.self.inside.screen) _ c.args.client (c.args.client - 1) c.in-Some.resident.now
    (here-at c.self.inside.residents.items c.args.client c.in-Some.resident.now c.in-Some.ensures.value) c.tell_to.new.resident
    (told-no-more c.args.event c.args.pointers.now c.in-Some.resident.now.client.ended c.in-Some.resident.now.client.refused c.in-Some.resident.now.client
    c.tell_to.new.resident.client c.tell_to.ensures.told) other)

pub returns-in_default-clause-damage : goal.returns-in_default-clause-damage
returns-in_default-clause-damage g c = ap (λ (m : MarkedDesk). m.damage) c.self.view_is

pub returns-in_default-clause-output : goal.returns-in_default-clause-output
returns-in_default-clause-output g c = ap (λ (m : MarkedDesk). m.desk.output) c.self.view_is

pub returns-in_default-clause-pile : goal.returns-in_default-clause-pile
returns-in_default-clause-pile g c = ap (λ (m : MarkedDesk). m.desk.pile) c.self.view_is

pub returns-in_default-clause-numbers : goal.returns-in_default-clause-numbers
returns-in_default-clause-numbers g c =
    let pile = pile_of c.self.inside.screen in
    ap (λ (w : MarkedDesk). numbers_in w.desk.clients) c.self.view_is

pub returns-clause-damage : goal.returns-clause-damage
returns-clause-damage g c = ap (λ (m : MarkedDesk). m.damage) c.self.view_is

pub returns-clause-output : goal.returns-clause-output
returns-clause-output g c = ap (λ (m : MarkedDesk). m.desk.output) c.self.view_is

pub returns-clause-pile : goal.returns-clause-pile
returns-clause-pile g c = ap (λ (m : MarkedDesk). m.desk.pile) c.self.view_is

pub returns-clause-numbers : goal.returns-clause-numbers
returns-clause-numbers g c =
    rw (← c.self.view_is) (told-numbers c.self.inside.output c.self.inside.residents.items (pile_of c.self.inside.screen) c.args.client (c.args.client - 1) c.in-Some.resident.now
    (here-at c.self.inside.residents.items c.args.client c.in-Some.resident.now c.in-Some.ensures.value) c.tell_to.new.resident c.tell_to.ensures.table)

pub invariant_of-self : goal.invariant_of-self
invariant_of-self g c = c.self.invariant

pub invariant_of-self-2 : goal.invariant_of-self-2
invariant_of-self-2 g c = (length-set _ _ _ ∙ c.self.invariant.0, c.self.invariant.1)
