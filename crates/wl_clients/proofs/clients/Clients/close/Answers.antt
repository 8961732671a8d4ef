use Rattle.std.proofs.Common.{false, ap, refl, sym, ◌∙◌}
use Rattle.std.proofs.lemmas.List.{length-set}
use Rattle.spec_desktop.specs.Act.{Close, IsClosed}
use Rattle.spec_desktop.specs.declared.answers.Done.TheVariants as gave
use Rattle.wl_clients.specs.View.{MarkedDesk, Pile, pile_of}
use Rattle.wl_clients.proofs.Calls.{Changes-none, closed, unclosed}
use Rattle.wl_clients.proofs.Leading.{still-led}
use Rattle.wl_clients.proofs.Marks.{steps-still}
use Rattle.wl_clients.proofs.Steps.{steps-nobody, steps-whole}
use Rattle.wl_clients.proofs.Seats.{as-large, empty-slot, found, missing, none-marked}
use Rattle.wl_clients.proofs.Still.{closed-still}
use Rattle.wl_clients.proofs.clients.Clients.close.Goals as goal

pub returns-in_default-clause-step : goal.returns-in_default-clause-step
returns-in_default-clause-step g c =
    let pile = pile_of c.self.inside.screen in
    steps-nobody c.args.client c.args.self.now c.args.self.now (missing c.self.inside.output c.self.inside.residents.items pile c.self.inside.screen.damage _ _ _
    c.deref.ensures.value c.in_default.ensures.none c.self.view_is) refl (Close c.args.client) tt (gave.Close false)
    (λ d free a. Changes-none IsClosed (gave.Close false) _ d _ free a)

pub returns-in_default-clause-marks : goal.returns-in_default-clause-marks
returns-in_default-clause-marks g c =
    steps-still c.args.self.now.desk c.args.self.now.damage c.args.self.now.damage refl
    (Close c.args.client) _ (closed-still c.args.client _)

pub returns-in_default-index-clause-step : goal.returns-in_default-index-clause-step
returns-in_default-index-clause-step g c =
    let pile = pile_of c.self.inside.screen in
    steps-nobody c.args.client c.args.self.now c.args.self.now
    (missing c.self.inside.output c.self.inside.residents.items pile c.self.inside.screen.damage _ _ _ refl (empty-slot _ _ _ _ _ c.deref.ensures.value
    c.in-Some.ensures.some c.index.ensures c.in_default-index.is).0 c.self.view_is) refl (Close c.args.client) tt (gave.Close false)
    (λ d free a. Changes-none IsClosed (gave.Close false) _ d _ free a)

pub returns-in_default-index-clause-marks : goal.returns-in_default-index-clause-marks
returns-in_default-index-clause-marks g c =
    steps-still c.args.self.now.desk c.args.self.now.damage c.args.self.now.damage refl
    (Close c.args.client) _ (closed-still c.args.client _)

pub returns-then-not-has_ended-clause-step : goal.returns-then-not-has_ended-clause-step
returns-then-not-has_ended-clause-step g c =
    let pile = pile_of c.self.inside.screen in
    steps-whole (Close c.args.client) tt _ _ _ (λ d a. rw (← c.self.view_is)
    (unclosed c.self.inside.output c.self.inside.residents.items pile c.args.client c.in-Some.k c.in-Some-index.resident
    (found _ _ _ _ _ _ c.deref.ensures.value c.in-Some.ensures.some c.index.ensures c.in-Some-index.is)
    d (rw (← c.self.view_is) at a.matches) (sym c.has_ended.ensures ∙ c.if-not-has_ended.true)))

pub returns-then-not-has_ended-clause-marks : goal.returns-then-not-has_ended-clause-marks
returns-then-not-has_ended-clause-marks g c =
    steps-still c.args.self.now.desk c.args.self.now.damage c.args.self.now.damage refl
    (Close c.args.client) _ (closed-still c.args.client _)

pub returns-clause-step : goal.returns-clause-step
returns-clause-step g c =
    let pile = pile_of c.self.inside.screen in
    let now : Pile = record { scene = c.unmap_all.new.self; windows = c.remove_client.new.self.windows } in
    steps-whole (Close c.args.client) tt _ _ _ (λ d a.
    closed c.self.inside.output c.self.inside.residents.items pile c.args.client c.in-Some.k c.in-Some-index.resident
    (found _ _ _ _ _ _ c.deref.ensures.value c.in-Some.ensures.some c.index.ensures c.in-Some-index.is) d (rw (← c.self.view_is) at a.matches)
    now (sym c.has_ended.ensures ∙ c.if-not-has_ended.false) a.ordered c.unmap_all.ensures.standing c.unmap_all.ensures.next c.remove_client.ensures.windows)

pub returns-clause-marks : goal.returns-clause-marks
returns-clause-marks g c =
    steps-still c.args.self.now.desk c.args.self.now.damage c.self.inside.screen.damage (ap (λ (m : MarkedDesk). m.damage) c.self.view_is)
    (Close c.args.client) _ (closed-still c.args.client _)

pub returns-clause-sides : goal.returns-clause-sides
returns-clause-sides g c = as-large _ _ c.self.view_is

pub returns-clause-nothing : goal.returns-clause-nothing
returns-clause-nothing g c = none-marked _ _ c.self.view_is

pub returns-clause-output : goal.returns-clause-output
returns-clause-output g c = ap (λ (m : MarkedDesk). m.desk.output) c.self.view_is

pub invariant_of-self : goal.invariant_of-self
invariant_of-self g c = (length-set _ _ _ ∙ c.self.invariant.0, c.self.invariant.1)

pub returns-in_default-clause-leads : goal.returns-in_default-clause-leads
returns-in_default-clause-leads g c =
    still-led (Close c.args.client) refl (λ other piece e. absurd (cc)) _ _ _ _ _ refl
    (returns-in_default-clause-step g c) (returns-in_default-clause-marks g c)

pub returns-in_default-index-clause-leads : goal.returns-in_default-index-clause-leads
returns-in_default-index-clause-leads g c =
    still-led (Close c.args.client) refl (λ other piece e. absurd (cc)) _ _ _ _ _ refl
    (returns-in_default-index-clause-step g c) (returns-in_default-index-clause-marks g c)

pub returns-then-not-has_ended-clause-leads : goal.returns-then-not-has_ended-clause-leads
returns-then-not-has_ended-clause-leads g c =
    still-led (Close c.args.client) refl (λ other piece e. absurd (cc)) _ _ _ _ _ refl
    (returns-then-not-has_ended-clause-step g c) (returns-then-not-has_ended-clause-marks g c)

pub returns-clause-leads : goal.returns-clause-leads
returns-clause-leads g c =
    still-led (Close c.args.client) refl (λ other piece e. absurd (cc)) _ _ _ _ _ (ap (λ (m : MarkedDesk). m.damage) c.self.view_is)
    (returns-clause-step g c) (returns-clause-marks g c)
