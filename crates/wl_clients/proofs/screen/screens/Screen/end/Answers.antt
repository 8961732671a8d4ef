use Rattle.std.proofs.Common.{◌≡◌, ◌≤◌, ℕ, Option, Some, None, true, length, ap, arith, refl, subst, sym, ◌∙◌}
use Rattle.std.proofs.lemmas.Bool.{true≢false}
use Rattle.wl_client.specs.Agreement.{IsPeer}
use Rattle.std.specs.Prelude.{is_none, is_some}
use Rattle.wl_client.proofs.Peers.{IsPeer-ended}
use Rattle.law_desktop.proofs.Runs.Places.{left_by}
use Rattle.spec_desktop.specs.Peer.{Peer}
use Rattle.spec_desktop.specs.declared.cause.Cause.{Cause}
use Rattle.spec_desktop.specs.Desktop.{become}
use Rattle.wl_paint.specs.Damage.{Damaged}
use Rattle.wl_clients.specs.Marking.{MarksOwn, MarksOwnIf}
use Rattle.wl_clients.specs.Seats.{IsClearedBy, IsSeated, ended_by, opened_kept}
use Rattle.wl_clients.specs.View.{Pile, pile_of}
use Rattle.wl_client.specs.View.{ClientView}
use Rattle.wl_requests.specs.declared.residents.Resident.{Resident as Kept}
use Rattle.wl_clients.proofs.OnScreen.Marked.{lives-none, own-marked, own-unmarked, pile-same}
use Rattle.wl_clients.proofs.OnScreen.Telling.{ends-ended, ends-lives, told-ended, told-seated}
use Rattle.wl_clients.proofs.screen.screens.Screen.end.Goals as goal
use Rattle.wl_clients.proofs.screen.screens.Screen.end.Goals.{then-not-has_ended, else-not-has_ended}

-- who lives hasn't ended
none-some-so : (o : Option Cause) → o ≡ None → is_some o ≡ true → ⊥
none-some-so None e some = true≢false (sym some)
none-some-so (Some cause) e some = absurd (cc)

pub returns-clause-ends : goal.returns-clause-ends
returns-clause-ends g c = λ others base d r is.
    let old = c.args.resident.now in
    let mid = c.if-not-has_ended.resident in
    let p = is.seat.peer in
    let peer : IsPeer mid.client (ended_by r.peer.status c.args.cause r.peer) = elim c.if-not-has_ended.branch [
      | then-not-has_ended w ↦ rw w.resident-is (ends-lives old.client c.args.cause r.peer p.status (sym c.has_ended.ensures ∙ w.if-not-has_ended.true) w.end.new.self (w.end.ensures.ends r.peer p))
      | else-not-has_ended w ↦ rw w.resident-is (ends-ended old.client c.args.cause r.peer (sym c.has_ended.ensures ∙ w.if-not-has_ended.false) p)
    ] in
    let owned : mid.owned ≡ old.owned = elim c.if-not-has_ended.branch [
      | then-not-has_ended w ↦ rw w.resident-is refl
      | else-not-has_ended w ↦ rw w.resident-is refl
    ] in
    let subsurfaces : mid.subsurfaces ≡ old.subsurfaces = elim c.if-not-has_ended.branch [
      | then-not-has_ended w ↦ rw w.resident-is refl
      | else-not-has_ended w ↦ rw w.resident-is refl
    ] in
    let same : pile_of c.if-not-has_ended.self ≡ pile_of c.args.self.now = elim c.if-not-has_ended.branch [
      | then-not-has_ended w ↦ rw w.self-is (pile-same c.args.self.now w.mark_client.new.self w.mark_client.ensures.scene w.mark_client.ensures.stacked)
      | else-not-has_ended w ↦ rw w.self-is refl
    ] in
    let left = subst (λ (was : Pile). IsClearedBy mid.client.ended c.args.client mid c.clear.new.resident was (pile_of c.clear.new.self)) same c.clear.ensures.clears in (
      _,
      told-seated c.args.client others base d r old mid c.clear.new.resident (pile_of c.args.self.now) (pile_of c.clear.new.self) is _
          (told-ended c.args.cause old mid r peer owned subsurfaces) left,
    )

pub returns-clause-marks : goal.returns-clause-marks
returns-clause-marks g c =
    let kept = c.args.resident.now in
    let pile = pile_of c.args.self.now in
    let damage = c.args.self.now.damage in
    let lives = lives-none kept.client.ended c.has_ended.result c.has_ended.ensures in
    let marks : MarksOwnIf (is_none kept.client.ended) c.args.client kept pile damage c.if-not-has_ended.self.damage = elim c.if-not-has_ended.branch [
      | then-not-has_ended w ↦ rw (w.self-is, lives, w.if-not-has_ended.true) (own-marked c.args.client kept pile damage w.mark_client.new.self.damage w.mark_client.ensures.points
          w.mark_client.ensures.sides)
      | else-not-has_ended w ↦ rw (w.self-is, lives, w.if-not-has_ended.false) (own-unmarked c.args.client kept pile damage)
    ] in
    subst (λ (new : Damaged). MarksOwn kept.client.ended c.args.client kept pile damage new) (sym c.clear.ensures.damage) marks

-- the same of one that lives, where an event for it was refused

pub returns-clause-refused : goal.returns-clause-refused
returns-clause-refused g c = λ alive others base d r is.
    let kept = c.args.resident.now in
    let old = opened_kept kept in
    let mid = c.if-not-has_ended.resident in
    let p = is.seat.peer in
    let lives : r.peer.status ≡ None = sym p.status ∙ alive in
    let peer : IsPeer mid.client (ended_by r.peer.status c.args.cause r.peer) = elim c.if-not-has_ended.branch [
      | then-not-has_ended w ↦ rw (w.resident-is, lives, w.end.ensures.cleared) (IsPeer-ended old.client r.peer c.args.cause p)
      | else-not-has_ended w ↦ absurd (none-some-so kept.client.ended alive (sym c.has_ended.ensures ∙ w.if-not-has_ended.false))
    ] in
    let owned : mid.owned ≡ old.owned = elim c.if-not-has_ended.branch [
      | then-not-has_ended w ↦ rw w.resident-is refl
      | else-not-has_ended w ↦ rw w.resident-is refl
    ] in
    let subsurfaces : mid.subsurfaces ≡ old.subsurfaces = elim c.if-not-has_ended.branch [
      | then-not-has_ended w ↦ rw w.resident-is refl
      | else-not-has_ended w ↦ rw w.resident-is refl
    ] in
    let same : pile_of c.if-not-has_ended.self ≡ pile_of c.args.self.now = elim c.if-not-has_ended.branch [
      | then-not-has_ended w ↦ rw w.self-is (pile-same c.args.self.now w.mark_client.new.self w.mark_client.ensures.scene w.mark_client.ensures.stacked)
      | else-not-has_ended w ↦ rw w.self-is refl
    ] in
    let left = subst (λ (was : Pile). IsClearedBy mid.client.ended c.args.client mid c.clear.new.resident was (pile_of c.clear.new.self)) same c.clear.ensures.clears in (
      _,
      subst (λ (q : Peer). IsSeated c.args.client others base c.clear.new.resident (pile_of c.clear.new.self) (become c.args.client r q d) (left_by q.status r q))
          (ap (λ (s : Option Cause). ended_by s c.args.cause r.peer) lives)
          (told-seated c.args.client others base d r old mid c.clear.new.resident (pile_of c.args.self.now) (pile_of c.clear.new.self) is _
          (told-ended c.args.cause old mid r peer owned subsurfaces) left),
    )

pub returns-clause-marks_refused : goal.returns-clause-marks_refused
returns-clause-marks_refused g c = λ alive.
    let kept = c.args.resident.now in
    let pile = pile_of c.args.self.now in
    let damage = c.args.self.now.damage in
    let marks : MarksOwnIf true c.args.client (opened_kept kept) pile damage c.if-not-has_ended.self.damage = elim c.if-not-has_ended.branch [
      | then-not-has_ended w ↦ rw w.self-is (own-marked c.args.client (opened_kept kept) pile damage w.mark_client.new.self.damage w.mark_client.ensures.points
          w.mark_client.ensures.sides)
      | else-not-has_ended w ↦ absurd (none-some-so kept.client.ended alive (sym c.has_ended.ensures ∙ w.if-not-has_ended.false))
    ] in
    subst (λ (new : Damaged). MarksOwnIf true c.args.client (opened_kept kept) pile damage new) (sym c.clear.ensures.damage) marks

-- what is left to be taken is no more

cleared-client : {A : Type 0} (e : Option Cause) (n : ℕ) (old new : Kept A) (was is : Pile) → IsClearedBy e n old new was is → new.client ≡ old.client
cleared-client {A} None n old new was is h = ap (λ (r : Kept A). r.client) h.0
cleared-client {A} (Some cause) n old new was is h = h.0

pub returns-clause-rest : goal.returns-clause-rest
returns-clause-rest g c =
    let old = c.args.resident.now in
    let mid = c.if-not-has_ended.resident in
    let less : length mid.client.rest ≤ length old.client.rest = elim c.if-not-has_ended.branch [
      | then-not-has_ended w ↦ rw (w.resident-is, w.end.ensures.cleared) (omega arith)
      | else-not-has_ended w ↦ rw w.resident-is (omega arith)
    ] in
    subst (λ (v : ClientView). length v.rest ≤ length old.client.rest) (sym (cleared-client _ _ mid c.clear.new.resident _ _ c.clear.ensures.clears)) less
