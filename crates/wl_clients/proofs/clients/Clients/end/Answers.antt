use Rattle.std.proofs.Common.{ap, refl, ◌∙◌, sym, ◌-◌}
use Rattle.std.proofs.lemmas.List.{length-set}
use Rattle.wl_clients.specs.Agreement.{numbers_in}
use Rattle.wl_clients.specs.View.{MarkedDesk, pile_of}
use Rattle.wl_clients.specs.Residents.{client_views}
use Rattle.wl_clients.proofs.Kept.{ends}
use Rattle.wl_clients.proofs.Marks.{adds-within, ends-marked, nobody-adds, own-adds, own-most, sized}
use Rattle.wl_clients.proofs.Steps.{ends-away, ends-nobody, ends-whole}
use Rattle.wl_clients.proofs.Seats.{as-large, here-at, missing, was-marked}
use Rattle.wl_clients.proofs.clients.Clients.end.Goals as goal

pub returns-in_default-clause-ends : goal.returns-in_default-clause-ends
returns-in_default-clause-ends g c =
    let pile = pile_of c.self.inside.screen in
    ends-nobody c.args.client _ _ (missing c.self.inside.output c.self.inside.residents.items pile c.self.inside.screen.damage _ _ _ refl (sym c.in_default.ensures.value) c.self.view_is) c.self.view_is c.args.cause

pub returns-in_default-clause-marks : goal.returns-in_default-clause-marks
returns-in_default-clause-marks g c =
    let pile = pile_of c.self.inside.screen in
    ends-marked c.args.client c.args.cause c.args.self.now.desk c.args.self.now.damage c.self.inside.screen.damage
    (nobody-adds c.args.client c.args.self.now
    (missing c.self.inside.output c.self.inside.residents.items pile c.self.inside.screen.damage _ _ _ refl (sym c.in_default.ensures.value) c.self.view_is)
    c.self.inside.screen.damage (ap (λ (m : MarkedDesk). m.damage) c.self.view_is))

pub returns-in_default-clause-within : goal.returns-in_default-clause-within
returns-in_default-clause-within g c = λ d a x y wide high marked. was-marked _ _ _ x y c.self.view_is marked

pub returns-in_default-clause-most : goal.returns-in_default-clause-most
returns-in_default-clause-most g c = λ d e a step b x y wide high marked. was-marked _ _ _ x y c.self.view_is marked

pub returns-in_default-clause-sides : goal.returns-in_default-clause-sides
returns-in_default-clause-sides g c = as-large _ _ c.self.view_is

pub returns-in_default-clause-output : goal.returns-in_default-clause-output
returns-in_default-clause-output g c = ap (λ (m : MarkedDesk). m.desk.output) c.self.view_is

pub returns-clause-ends : goal.returns-clause-ends
returns-clause-ends g c =
    let pile = pile_of c.self.inside.screen in
    ends-whole c.args.client c.args.cause _ _ (λ d a.
    ends c.self.inside.output c.self.inside.residents.items pile c.args.client (c.args.client - 1) c.in-Some.resident.now
    (here-at c.self.inside.residents.items c.args.client c.in-Some.resident.now c.in-Some.ensures.value) d (rw (← c.self.view_is) at a.matches)
    c.args.cause c.end.new.resident (pile_of c.end.new.self) (c.end.ensures.ends (numbers_in (client_views c.self.inside.residents.items)) d d))

pub returns-clause-marks : goal.returns-clause-marks
returns-clause-marks g c =
    let pile = pile_of c.self.inside.screen in
    ends-marked c.args.client c.args.cause c.args.self.now.desk c.args.self.now.damage c.end.new.self.damage (λ d a.
    rw (← c.self.view_is) (own-adds c.self.inside.output c.self.inside.residents.items pile c.args.client (c.args.client - 1) c.in-Some.resident.now
    (here-at c.self.inside.residents.items c.args.client c.in-Some.resident.now c.in-Some.ensures.value) d (rw (← c.self.view_is) at a)
    c.self.inside.screen.damage c.end.new.self.damage c.end.ensures.marks))

pub returns-clause-within : goal.returns-clause-within
returns-clause-within g c =
    let pile = pile_of c.self.inside.screen in
    λ d a.
    rw (← c.self.view_is) (adds-within c.args.client d c.self.inside.screen.damage c.end.new.self.damage
    (own-adds c.self.inside.output c.self.inside.residents.items pile c.args.client (c.args.client - 1) c.in-Some.resident.now
    (here-at c.self.inside.residents.items c.args.client c.in-Some.resident.now c.in-Some.ensures.value) d (rw (← c.self.view_is) at a)
    c.self.inside.screen.damage c.end.new.self.damage c.end.ensures.marks))

pub returns-clause-most : goal.returns-clause-most
returns-clause-most g c =
    λ d e a step b.
    own-most c.args.client c.args.self.now _ d e c.end.new.self.damage a b (sized _ _ d c.self.view_is c.self.invariant.1 a)
    (ends-away c.args.client c.args.cause d e a.ordered step) (returns-clause-within g c d a)

pub returns-clause-sides : goal.returns-clause-sides
returns-clause-sides g c = rw (← c.self.view_is) c.end.ensures.marks.0

pub returns-clause-output : goal.returns-clause-output
returns-clause-output g c = ap (λ (m : MarkedDesk). m.desk.output) c.self.view_is

pub invariant_of-self-2 : goal.invariant_of-self-2
invariant_of-self-2 g c =
    (length-set _ _ _ ∙ c.self.invariant.0, (c.end.ensures.marks.0.width ∙ c.self.invariant.1.0, c.end.ensures.marks.0.height ∙ c.self.invariant.1.1))

pub invariant_of-self : goal.invariant_of-self
invariant_of-self g c = c.self.invariant
