use Rattle.std.proofs.Common.{ap, refl, subst, sym, ◌∙◌, ◌-◌}
use Rattle.std.proofs.lemmas.List.{length-set}
use Rattle.wl_clients.specs.Agreement.{numbers_in}
use Rattle.wl_clients.specs.View.{MarkedDesk, pile_of}
use Rattle.wl_clients.specs.Residents.{client_views, resident_at}
use Rattle.wl_requests.specs.Messages.{IsAsked}
use Rattle.wl_clients.proofs.Asks.{message-asks, over-there}
use Rattle.wl_clients.proofs.Grabbing.{latest-here}
use Rattle.wl_clients.proofs.Kept.{both-then, idles, none-then, rest-less, serves-through, some-then}
use Rattle.wl_clients.proofs.HitsStay.{hits-whole}
use Rattle.wl_clients.proofs.Leading.{message-led}
use Rattle.wl_clients.proofs.Steps.{idles-nobody, idles-whole, through-whole}
use Rattle.wl_clients.proofs.Seats.{as-large, here-at, here-is, missing}
use Rattle.wl_clients.proofs.clients.Clients.take.Goals as goal

-- ---- no client is there

pub returns-in_default-clause-more : goal.returns-in_default-clause-more
returns-in_default-clause-more g c =
    let pile = pile_of c.self.inside.screen in
    idles-nobody c.args.client c.args.self.now c.args.self.now (missing c.self.inside.output c.self.inside.residents.items pile c.self.inside.screen.damage _ _ _
    c.deref.ensures.value (sym {b = resident_at c.deref.result.now c.args.client} c.in_default.ensures) c.self.view_is) refl

pub returns-in_default-resident_mut-clause-more : goal.returns-in_default-resident_mut-clause-more
returns-in_default-resident_mut-clause-more g c =
    let pile = pile_of c.self.inside.screen in
    idles-nobody c.args.client _ _ (missing c.self.inside.output c.self.inside.residents.items pile c.self.inside.screen.damage _ _ _ refl (sym c.in_default-resident_mut.ensures.value) c.self.view_is) c.self.view_is

pub returns-in_default-resident_mut-clause-rests : goal.returns-in_default-resident_mut-clause-rests
returns-in_default-resident_mut-clause-rests g c = ap (λ (m : MarkedDesk). m.damage) c.self.view_is

pub returns-in_default-resident_mut-clause-sides : goal.returns-in_default-resident_mut-clause-sides
returns-in_default-resident_mut-clause-sides g c = as-large _ _ c.self.view_is

pub returns-in_default-resident_mut-clause-output : goal.returns-in_default-resident_mut-clause-output
returns-in_default-resident_mut-clause-output g c = ap (λ (m : MarkedDesk). m.desk.output) c.self.view_is

-- ---- no whole message is there

pub returns-clause-more : goal.returns-clause-more
returns-clause-more g c =
    let pile = pile_of c.self.inside.screen in
    none-then c.serve.result (λ none. idles-whole c.args.client _ _ (λ d a.
    let idle = c.serve.ensures.idle none in
    idles c.self.inside.output c.self.inside.residents.items pile c.args.client (c.args.client - 1) c.in-Some-resident_mut.resident.now
    (here-at c.self.inside.residents.items c.args.client c.in-Some-resident_mut.resident.now c.in-Some-resident_mut.ensures.value) d (rw (← c.self.view_is) at a)
    c.serve.new.resident (pile_of c.serve.new.self) idle.0 idle.1 idle.3))

pub returns-clause-rests : goal.returns-clause-rests
returns-clause-rests g c = none-then c.serve.result (λ none. (c.serve.ensures.idle none).2 ∙ ap (λ (m : MarkedDesk). m.damage) c.self.view_is)

-- ---- a message is taken

pub returns-clause-less : goal.returns-clause-less
returns-clause-less g c =
    let pile = pile_of c.self.inside.screen in
    some-then c.serve.result c.serve.ensures.asks (λ some taken asks.
    rw (← c.self.view_is) (rest-less c.self.inside.output c.self.inside.residents.items pile (pile_of c.serve.new.self) c.args.client (c.args.client - 1) c.in-Some-resident_mut.resident.now
    (here-at c.self.inside.residents.items c.args.client c.in-Some-resident_mut.resident.now c.in-Some-resident_mut.ensures.value) c.serve.new.resident (c.serve.ensures.less some)))

pub returns-clause-sides : goal.returns-clause-sides
returns-clause-sides g c = rw (← c.self.view_is) c.serve.ensures.sides

pub returns-clause-output : goal.returns-clause-output
returns-clause-output g c = ap (λ (m : MarkedDesk). m.desk.output) c.self.view_is

pub invariant_of-self-2 : goal.invariant_of-self-2
invariant_of-self-2 g c =
    (length-set _ _ _ ∙ c.self.invariant.0, (c.serve.ensures.sides.width ∙ c.self.invariant.1.0, c.serve.ensures.sides.height ∙ c.self.invariant.1.1))

pub invariant_of-self : goal.invariant_of-self
invariant_of-self g c = c.self.invariant

pub returns-clause-asks : goal.returns-clause-asks
returns-clause-asks g c = some-then c.serve.result c.serve.ensures.asks (λ some taken asks d a.
    let pile = pile_of c.self.inside.screen in
    rw (← c.self.view_is) (message-asks c.self.inside.output c.self.inside.residents.items pile c.args.client (c.args.client - 1) c.in-Some-resident_mut.resident.now
    (here-at c.self.inside.residents.items c.args.client c.in-Some-resident_mut.resident.now c.in-Some-resident_mut.ensures.value) d (rw (← c.self.view_is) at a.matches) asks.0 _ asks.1))

pub returns-clause-leads : goal.returns-clause-leads
returns-clause-leads g c = some-then c.serve.result c.serve.ensures.asks (λ some taken asks d a latest.
    let pile = pile_of c.self.inside.screen in
    message-led c.args.client _ c.args.self.now.damage c.serve.new.self.damage d
    (through-whole c.args.client _ _ c.args.self.now.damage c.serve.new.self.damage d a
    (rw (← c.self.view_is) (serves-through c.self.inside.output c.self.inside.residents.items pile c.args.client (c.args.client - 1) c.in-Some-resident_mut.resident.now
    (here-at c.self.inside.residents.items c.args.client c.in-Some-resident_mut.resident.now c.in-Some-resident_mut.ensures.value) d (rw (← c.self.view_is) at a.matches)
    c.serve.new.resident (pile_of c.serve.new.self) c.self.inside.screen.damage c.serve.new.self.damage a.ordered
    (λ r width height seated ordered. c.serve.ensures.through some
    (numbers_in (client_views c.self.inside.residents.items)) d d r width height seated ordered
    (c.grabbing-grabbing.ensures d r a (latest-here c.args.latest c.args.client r d seated.based.there latest)))
    c.self.invariant.1))))

pub returns-clause-seat : goal.returns-clause-seat
returns-clause-seat g c = some-then c.serve.result c.serve.ensures.seat (λ some taken seat id new lacks e b.
    let pile = pile_of c.self.inside.screen in
    over-there c.self.inside.output c.self.inside.residents.items pile (pile_of c.serve.new.self) c.args.client (c.args.client - 1) c.in-Some-resident_mut.resident.now
    (here-at c.self.inside.residents.items c.args.client c.in-Some-resident_mut.resident.now c.in-Some-resident_mut.ensures.value) c.serve.new.resident e
    (seat id new lacks) b.matches)

pub serve-requires : goal.serve-requires
serve-requires g c =
    let rs = c.self.inside.residents.items in
    subst (λ v. IsAsked v.client c.asked-asked.result) (here-is rs c.args.client (c.args.client - 1) c.in-Some-resident_mut.resident.now c.in-Some.resident.now
    (here-at c.self.inside.residents.items c.args.client c.in-Some-resident_mut.resident.now c.in-Some-resident_mut.ensures.value)
    (c.in-Some.ensures ∙ ap (λ rs. resident_at rs c.args.client) c.deref.ensures.value)) c.asked-asked.ensures

pub returns-clause-hits : goal.returns-clause-hits
returns-clause-hits g c =
    both-then c.serve.result c.serve.ensures.asks c.serve.ensures.hits (λ taken asks stay no d a latest.
    hits-whole c.self.inside.output c.self.inside.residents.items (pile_of c.self.inside.screen) c.args.client (c.args.client - 1) c.in-Some-resident_mut.resident.now
    (here-at c.self.inside.residents.items c.args.client c.in-Some-resident_mut.resident.now c.in-Some-resident_mut.ensures.value) d (rw (← c.self.view_is) at a.matches)
    c.serve.new.resident (pile_of c.serve.new.self) c.self.inside.screen.damage a.ordered c.self.invariant.1
    (λ r width height seated ordered. stay no (numbers_in (client_views c.self.inside.residents.items)) d d r width height seated ordered
    (c.grabbing-grabbing.ensures d r a (latest-here c.args.latest c.args.client r d seated.based.there latest))))
