use Rattle.std.proofs.Common.{Option, ap, refl, subst, sym, ◌∙◌}
use Rattle.std.proofs.lemmas.Bool.{true≢false}
use Rattle.std.specs.Prelude.{is_some}
use Rattle.wl_paint.specs.Damage.{Damaged, has}
use Rattle.spec_desktop.specs.declared.cause.Cause.{Cause}
use Rattle.wl_clients.specs.Seats.{IsClearedBy}
use Rattle.wl_clients.specs.View.{Pile, pile_of}
use Rattle.wl_clients.proofs.OnScreen.Marked.{pile-same}
use Rattle.wl_clients.proofs.OnScreen.Served.{lives-so}
use Rattle.wl_clients.proofs.screen.screens.Screen.part_alone.Goals as goal

pub returns-then-not-has_ended-clause-clears : goal.returns-then-not-has_ended-clause-clears
returns-then-not-has_ended-clause-clears g c =
    let v = c.args.resident.now in
    let pile = pile_of c.args.self.now in
    subst (λ (o : Option Cause). IsClearedBy o c.args.client v v pile pile) (sym (lives-so v.client.ended (sym c.has_ended.ensures ∙ c.if-not-has_ended.true))) (refl, refl)

pub returns-then-not-has_ended-clause-points : goal.returns-then-not-has_ended-clause-points
returns-then-not-has_ended-clause-points g c = λ over. absurd (true≢false (sym over ∙ (sym c.has_ended.ensures ∙ c.if-not-has_ended.true)))

pub returns-clause-clears : goal.returns-clause-clears
returns-clause-clears g c =
    let v = c.args.resident.now in
    subst (λ (p : Pile). IsClearedBy v.client.ended c.args.client v c.clear.new.resident p (pile_of c.clear.new.self))
    (pile-same c.args.self.now c.mark_client.new.self c.mark_client.ensures.scene c.mark_client.ensures.stacked) c.clear.ensures.clears

pub returns-clause-points : goal.returns-clause-points
returns-clause-points g c = λ over x y wide high. ap (λ (m : Damaged). has m x y) c.clear.ensures.damage ∙ c.mark_client.ensures.points x y wide high

pub returns-clause-lives : goal.returns-clause-lives
returns-clause-lives g c = λ none. absurd (true≢false (sym (sym c.has_ended.ensures ∙ c.if-not-has_ended.false) ∙ ap (λ (o : Option Cause). is_some o) none))
