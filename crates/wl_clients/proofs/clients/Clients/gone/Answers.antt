use Rattle.std.proofs.Common.{false, ap, refl, ◌∙◌, sym, ◌-◌}
use Rattle.std.proofs.lemmas.List.{length-set}
use Rattle.spec_desktop.specs.Act.{Leave, IsLeft}
use Rattle.spec_desktop.specs.declared.answers.Done.TheVariants as gave
use Rattle.wl_clients.specs.View.{MarkedDesk, pile_of}
use Rattle.wl_clients.proofs.Calls.{Changes-none, changes}
use Rattle.wl_clients.proofs.Leading.{steps-led}
use Rattle.wl_clients.proofs.Marks.{adds-within, leaves-marked, nobody-adds, own-adds, own-most, sized}
use Rattle.wl_clients.proofs.Steps.{leaves-away, steps-nobody, steps-whole}
use Rattle.wl_clients.proofs.Seats.{as-large, here-at, missing, was-marked}
use Rattle.wl_clients.proofs.clients.Clients.gone.Goals as goal

pub returns-in_default-clause-step : goal.returns-in_default-clause-step
returns-in_default-clause-step g c =
    let pile = pile_of c.self.inside.screen in
    steps-nobody c.args.client _ _ (missing c.self.inside.output c.self.inside.residents.items pile c.self.inside.screen.damage _ _ _ refl (sym c.in_default.ensures.value) c.self.view_is) c.self.view_is
    (Leave c.args.client) tt (gave.Gone false) (λ d free a. Changes-none IsLeft (gave.Gone false) _ d _ free a)

pub returns-in_default-clause-marks : goal.returns-in_default-clause-marks
returns-in_default-clause-marks g c =
    let pile = pile_of c.self.inside.screen in
    leaves-marked c.args.client _ c.args.self.now.desk c.args.self.now.damage c.self.inside.screen.damage
    (nobody-adds c.args.client c.args.self.now
    (missing c.self.inside.output c.self.inside.residents.items pile c.self.inside.screen.damage _ _ _ refl (sym c.in_default.ensures.value) c.self.view_is)
    c.self.inside.screen.damage (ap (λ (m : MarkedDesk). m.damage) c.self.view_is))

pub returns-in_default-clause-within : goal.returns-in_default-clause-within
returns-in_default-clause-within g c = λ d a x y wide high marked. was-marked _ _ _ x y c.self.view_is marked

pub returns-in_default-clause-most : goal.returns-in_default-clause-most
returns-in_default-clause-most g c = λ d e a step b x y wide high marked. was-marked _ _ _ x y c.self.view_is marked

pub returns-in_default-clause-sides : goal.returns-in_default-clause-sides
returns-in_default-clause-sides g c = as-large _ _ c.self.view_is

pub returns-in_default-clause-output : goal.returns-in_default-clause-output
returns-in_default-clause-output g c = ap (λ (m : MarkedDesk). m.desk.output) c.self.view_is

pub returns-clause-step : goal.returns-clause-step
returns-clause-step g c =
    let pile = pile_of c.self.inside.screen in
    steps-whole (Leave c.args.client) tt _ _ _ (λ d a.
    changes c.self.inside.output c.self.inside.residents.items pile c.args.client (c.args.client - 1) c.in-Some.resident.now
    (here-at c.self.inside.residents.items c.args.client c.in-Some.resident.now c.in-Some.ensures.value) d (rw (← c.self.view_is) at a.matches)
    IsLeft (gave.Gone false) (gave.Gone c.gone.result) c.gone.new.resident (pile_of c.gone.new.self) c.gone.ensures.changes)

pub returns-clause-marks : goal.returns-clause-marks
returns-clause-marks g c =
    let pile = pile_of c.self.inside.screen in
    leaves-marked c.args.client _ c.args.self.now.desk c.args.self.now.damage c.gone.new.self.damage (λ d a.
    rw (← c.self.view_is) (own-adds c.self.inside.output c.self.inside.residents.items pile c.args.client (c.args.client - 1) c.in-Some.resident.now
    (here-at c.self.inside.residents.items c.args.client c.in-Some.resident.now c.in-Some.ensures.value) d (rw (← c.self.view_is) at a)
    c.self.inside.screen.damage c.gone.new.self.damage c.gone.ensures.marks))

pub returns-clause-within : goal.returns-clause-within
returns-clause-within g c =
    let pile = pile_of c.self.inside.screen in
    λ d a.
    rw (← c.self.view_is) (adds-within c.args.client d c.self.inside.screen.damage c.gone.new.self.damage
    (own-adds c.self.inside.output c.self.inside.residents.items pile c.args.client (c.args.client - 1) c.in-Some.resident.now
    (here-at c.self.inside.residents.items c.args.client c.in-Some.resident.now c.in-Some.ensures.value) d (rw (← c.self.view_is) at a)
    c.self.inside.screen.damage c.gone.new.self.damage c.gone.ensures.marks))

pub returns-clause-most : goal.returns-clause-most
returns-clause-most g c =
    λ d e a step b.
    own-most c.args.client c.args.self.now _ d e c.gone.new.self.damage a b (sized _ _ d c.self.view_is c.self.invariant.1 a)
    (leaves-away c.args.client (gave.Gone c.gone.result) d e a.ordered step) (returns-clause-within g c d a)

pub returns-clause-sides : goal.returns-clause-sides
returns-clause-sides g c = rw (← c.self.view_is) c.gone.ensures.marks.0

pub returns-clause-output : goal.returns-clause-output
returns-clause-output g c = ap (λ (m : MarkedDesk). m.desk.output) c.self.view_is

pub invariant_of-self-2 : goal.invariant_of-self-2
invariant_of-self-2 g c =
    (length-set _ _ _ ∙ c.self.invariant.0, (c.gone.ensures.marks.0.width ∙ c.self.invariant.1.0, c.gone.ensures.marks.0.height ∙ c.self.invariant.1.1))

pub invariant_of-self : goal.invariant_of-self
invariant_of-self g c = c.self.invariant

pub returns-in_default-clause-leads : goal.returns-in_default-clause-leads
returns-in_default-clause-leads g c =
    steps-led (Leave c.args.client) refl (λ other piece e. absurd (cc)) _ _ _ _ _
    (returns-in_default-clause-step g c) (returns-in_default-clause-marks g c) (returns-in_default-clause-most g c)

pub returns-clause-leads : goal.returns-clause-leads
returns-clause-leads g c =
    steps-led (Leave c.args.client) refl (λ other piece e. absurd (cc)) _ _ _ _ _
    (returns-clause-step g c) (returns-clause-marks g c) (returns-clause-most g c)
