use Rattle.std.proofs.Common.{ap, refl, ◌∙◌}
use Rattle.std.proofs.lemmas.List.{length-set}
use Rattle.spec_desktop.specs.Act.{Connect, lowest}
use Rattle.wl_clients.specs.View.{MarkedDesk, pile_of}
use Rattle.wl_clients.proofs.Calls.{Connects-full, Connects-new, Connects-refused}
use Rattle.wl_clients.proofs.Leading.{still-led}
use Rattle.wl_clients.proofs.Marks.{steps-still}
use Rattle.wl_clients.proofs.Steps.{steps-whole}
use Rattle.wl_clients.proofs.Seats.{as-large, none-marked}
use Rattle.wl_clients.proofs.Still.{connects-still}
use Rattle.wl_clients.proofs.clients.Clients.connect.Goals as goal

pub returns-in_default-clause-step : goal.returns-in_default-clause-step
returns-in_default-clause-step g c =
    let pile = pile_of c.self.inside.screen in
    steps-whole Connect tt _ _ _ (λ d a. rw (← c.self.view_is)
    (Connects-full c.self.inside.output c.self.inside.residents.items pile d (c.in_default.ensures.lowest ∙ ap (λ xs. lowest xs) c.deref.ensures.value) (rw (←
    c.self.view_is) at a.matches)))

pub returns-in_default-new-clause-step : goal.returns-in_default-new-clause-step
returns-in_default-new-clause-step g c =
    let pile = pile_of c.self.inside.screen in
    steps-whole Connect tt _ _ _ (λ d a. rw (← c.self.view_is)
    (Connects-refused c.self.inside.output c.self.inside.residents.items pile d _ (c.in-Some.ensures.lowest ∙ ap (λ xs. lowest xs) c.deref.ensures.value) (rw (←
    c.self.view_is) at a.matches)))

pub returns-clause-step : goal.returns-clause-step
returns-clause-step g c =
    let pile = pile_of c.self.inside.screen in
    steps-whole Connect tt _ _ _ (λ d a.
    Connects-new c.self.inside.output c.self.inside.residents.items pile c.in-Some.k
    (record { client = c.in-Ok.client; owned = c.bare.result; subsurfaces = c.new-2.result }) d
    (c.in-Some.ensures.lowest ∙ ap (λ xs. lowest xs) c.deref.ensures.value) (rw (← c.deref.ensures.value) c.in-Some.ensures.within) c.in-Ok.ensures c.bare.ensures c.new-2.ensures
    (rw (← c.self.view_is) at a))

pub returns-in_default-clause-marks : goal.returns-in_default-clause-marks
returns-in_default-clause-marks g c =
    steps-still c.args.self.now.desk c.args.self.now.damage c.args.self.now.damage refl
    Connect _ (λ d e ordered step. connects-still d e _ step)

pub returns-in_default-new-clause-marks : goal.returns-in_default-new-clause-marks
returns-in_default-new-clause-marks g c =
    steps-still c.args.self.now.desk c.args.self.now.damage c.args.self.now.damage refl
    Connect _ (λ d e ordered step. connects-still d e _ step)

pub returns-clause-marks : goal.returns-clause-marks
returns-clause-marks g c =
    steps-still c.args.self.now.desk c.args.self.now.damage c.self.inside.screen.damage (ap (λ (m : MarkedDesk). m.damage) c.self.view_is)
    Connect _ (λ d e ordered step. connects-still d e _ step)

pub returns-clause-sides : goal.returns-clause-sides
returns-clause-sides g c = as-large _ _ c.self.view_is

pub returns-clause-nothing : goal.returns-clause-nothing
returns-clause-nothing g c = none-marked _ _ c.self.view_is

pub returns-clause-output : goal.returns-clause-output
returns-clause-output g c = ap (λ (m : MarkedDesk). m.desk.output) c.self.view_is

pub invariant_of-self : goal.invariant_of-self
invariant_of-self g c = (length-set _ _ _ ∙ c.self.invariant.0, c.self.invariant.1)

pub returns-in_default-clause-leads : goal.returns-in_default-clause-leads
returns-in_default-clause-leads g c =
    still-led Connect refl (λ other piece e. absurd (cc)) _ _ _ _ _ refl
    (returns-in_default-clause-step g c) (returns-in_default-clause-marks g c)

pub returns-in_default-new-clause-leads : goal.returns-in_default-new-clause-leads
returns-in_default-new-clause-leads g c =
    still-led Connect refl (λ other piece e. absurd (cc)) _ _ _ _ _ refl
    (returns-in_default-new-clause-step g c) (returns-in_default-new-clause-marks g c)

pub returns-clause-leads : goal.returns-clause-leads
returns-clause-leads g c =
    still-led Connect refl (λ other piece e. absurd (cc)) _ _ _ _ _ (ap (λ (m : MarkedDesk). m.damage) c.self.view_is)
    (returns-clause-step g c) (returns-clause-marks g c)
