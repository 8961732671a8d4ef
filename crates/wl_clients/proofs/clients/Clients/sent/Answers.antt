use Rattle.spec_desktop.specs.Act.{Send, IsSent}
use Rattle.std.proofs.Common.{ap, refl, false, ◌∙◌, sym, ◌-◌}
use Rattle.std.proofs.lemmas.List.{length-set}
use Rattle.spec_desktop.specs.declared.answers.Done.TheVariants as gave
use Rattle.wl_clients.specs.View.{MarkedDesk, pile_of}
use Rattle.wl_clients.proofs.Calls.{Changes-none, changes}
use Rattle.wl_clients.proofs.Leading.{still-led}
use Rattle.wl_clients.proofs.Marks.{steps-still}
use Rattle.wl_clients.proofs.Steps.{steps-nobody, steps-whole}
use Rattle.wl_clients.proofs.Seats.{as-large, here-at, missing, none-marked}
use Rattle.wl_clients.proofs.Still.{sent-still}
use Rattle.wl_clients.proofs.clients.Clients.sent.Goals as goal

pub returns-in_default-clause-step : goal.returns-in_default-clause-step
returns-in_default-clause-step g c =
    let pile = pile_of c.self.inside.screen in
    steps-nobody c.args.client _ _ (missing c.self.inside.output c.self.inside.residents.items pile c.self.inside.screen.damage _ _ _ refl (sym c.in_default.ensures.value) c.self.view_is) c.self.view_is
    (Send c.args.client c.args.count) tt (gave.Sent false) (λ d free a. Changes-none (IsSent c.args.count) (gave.Sent false) _ d _ free a)

pub returns-in_default-clause-marks : goal.returns-in_default-clause-marks
returns-in_default-clause-marks g c =
    steps-still c.args.self.now.desk c.args.self.now.damage c.self.inside.screen.damage (ap (λ (m : MarkedDesk). m.damage) c.self.view_is)
    (Send c.args.client c.args.count) _ (sent-still c.args.client c.args.count _)

pub returns-in_default-clause-sides : goal.returns-in_default-clause-sides
returns-in_default-clause-sides g c = as-large _ _ c.self.view_is

pub returns-in_default-clause-nothing : goal.returns-in_default-clause-nothing
returns-in_default-clause-nothing g c = none-marked _ _ c.self.view_is

pub returns-in_default-clause-output : goal.returns-in_default-clause-output
returns-in_default-clause-output g c = ap (λ (m : MarkedDesk). m.desk.output) c.self.view_is

pub returns-clause-step : goal.returns-clause-step
returns-clause-step g c =
    let pile = pile_of c.self.inside.screen in
    steps-whole (Send c.args.client c.args.count) tt _ _ _ (λ d a.
    changes c.self.inside.output c.self.inside.residents.items pile c.args.client (c.args.client - 1) c.in-Some.resident.now
    (here-at c.self.inside.residents.items c.args.client c.in-Some.resident.now c.in-Some.ensures.value) d (rw (← c.self.view_is) at a.matches)
    (IsSent c.args.count) (gave.Sent false) (gave.Sent c.sent.result) c.sent.new.resident pile (c.sent.ensures.changes c.args.client pile))

pub returns-clause-marks : goal.returns-clause-marks
returns-clause-marks g c =
    steps-still c.args.self.now.desk c.args.self.now.damage c.self.inside.screen.damage (ap (λ (m : MarkedDesk). m.damage) c.self.view_is)
    (Send c.args.client c.args.count) _ (sent-still c.args.client c.args.count _)

pub returns-clause-sides : goal.returns-clause-sides
returns-clause-sides g c = as-large _ _ c.self.view_is

pub returns-clause-nothing : goal.returns-clause-nothing
returns-clause-nothing g c = none-marked _ _ c.self.view_is

pub returns-clause-output : goal.returns-clause-output
returns-clause-output g c = ap (λ (m : MarkedDesk). m.desk.output) c.self.view_is

pub invariant_of-self : goal.invariant_of-self
invariant_of-self g c = c.self.invariant

pub invariant_of-self-2 : goal.invariant_of-self-2
invariant_of-self-2 g c = (length-set _ _ _ ∙ c.self.invariant.0, c.self.invariant.1)

pub returns-in_default-clause-leads : goal.returns-in_default-clause-leads
returns-in_default-clause-leads g c =
    still-led (Send c.args.client c.args.count) refl (λ other piece e. absurd (cc)) _ _ _ _ _ (ap (λ (m : MarkedDesk). m.damage) c.self.view_is)
    (returns-in_default-clause-step g c) (returns-in_default-clause-marks g c)

pub returns-clause-leads : goal.returns-clause-leads
returns-clause-leads g c =
    still-led (Send c.args.client c.args.count) refl (λ other piece e. absurd (cc)) _ _ _ _ _ (ap (λ (m : MarkedDesk). m.damage) c.self.view_is)
    (returns-clause-step g c) (returns-clause-marks g c)
