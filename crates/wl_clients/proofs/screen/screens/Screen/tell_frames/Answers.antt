use Rattle.std.proofs.Common.{◌≡◌, Bool, Option, None, ap, refl, subst, sym, ◌∙◌}
use Rattle.std.specs.Prelude.{is_some}
use Rattle.wl_paint.specs.Damage.{Damaged}
use Rattle.spec_desktop.specs.declared.cause.Cause.{Cause}
use Rattle.spec_desktop.specs.Desktop.{become}
use Rattle.spec_desktop.specs.Framing.{FramesToldBy, done_due}
use Rattle.wl_clients.specs.Marking.{MarksOwnIf}
use Rattle.wl_clients.specs.Seats.{IsClearedBy}
use Rattle.wl_clients.specs.View.{Pile, pile_of}
use Rattle.wl_clients.proofs.OnScreen.Marked.{cleared-client, own-marked, own-unmarked, pile-same}
use Rattle.wl_clients.proofs.OnScreen.Telling.{frames-seated, frames-untold, lives-of}
use Rattle.wl_clients.proofs.screen.screens.Screen.tell_frames.Goals as goal
use Rattle.wl_clients.proofs.screen.screens.Screen.tell_frames.Goals.{then-has_ended-2, else-has_ended-2}

pub returns-then-has_ended-clause-tells : goal.returns-then-has_ended-clause-tells
returns-then-has_ended-clause-tells g c = λ others base d r is ordered.
    (d, r, frames-untold c.args.time c.args.client r d (ap (λ (o : Option Cause). is_some o) (sym is.seat.peer.status) ∙ sym c.has_ended.ensures ∙ c.if-has_ended.true), is)

pub returns-clause-tells : goal.returns-clause-tells
returns-clause-tells g c = λ others base d r is ordered.
    let old = c.args.resident.now in
    let mid = c.answer_frames.new.self in
    let lives = lives-of old.client.ended (sym c.has_ended.ensures ∙ c.if-has_ended.false) in
    let alive : r.peer.status ≡ None = sym is.seat.peer.status ∙ lives in
    let told = c.answer_frames.ensures.tells lives r (record { lives = lives; peer = is.seat.peer; owns = is.seat.owns; frames = is.seat.frames; subsurfaces = is.seat.subsurfaces })
    (ordered.each c.args.client r is.based.there alive) in
    let same : pile_of c.if-has_ended-2.self ≡ pile_of c.args.self.now = elim c.if-has_ended-2.branch [
      | then-has_ended-2 w ↦ rw w.self-is (pile-same c.args.self.now w.mark_client.new.self w.mark_client.ensures.scene w.mark_client.ensures.stacked)
      | else-has_ended-2 w ↦ rw w.self-is refl
    ] in
    let left = subst (λ (was : Pile). IsClearedBy mid.client.ended c.args.client mid c.clear.new.resident was (pile_of c.clear.new.self)) same c.clear.ensures.clears in
    let e = become c.args.client (done_due r) told.0 d in (
      e,
      _,
      subst (λ (s : Option Cause). FramesToldBy s c.args.time c.args.client r d e) (sym alive) (told.0, told.1, refl),
      frames-seated c.args.client others base d r c.args.time old mid c.clear.new.resident (pile_of c.args.self.now) (pile_of c.clear.new.self) is alive told.0 told.1 told.2 told.3 left,
    )

pub returns-clause-marks : goal.returns-clause-marks
returns-clause-marks g c = λ lives.
    let kept = c.args.resident.now in
    let pile = pile_of c.args.self.now in
    let damage = c.args.self.now.damage in
    let mid = c.answer_frames.new.self in
    let ended : is_some c.clear.new.resident.client.ended ≡ c.has_ended-2.result =
    ap (λ (o : Option Cause). is_some o)
    (cleared-client mid.client.ended c.args.client mid c.clear.new.resident (pile_of c.if-has_ended-2.self) (pile_of c.clear.new.self) c.clear.ensures.clears) ∙ sym c.has_ended-2.ensures in
    let marks : MarksOwnIf c.has_ended-2.result c.args.client kept pile damage c.if-has_ended-2.self.damage = elim c.if-has_ended-2.branch [
      | then-has_ended-2 w ↦ rw (w.self-is, w.if-has_ended-2.true) (own-marked c.args.client kept pile damage w.mark_client.new.self.damage w.mark_client.ensures.points w.mark_client.ensures.sides)
      | else-has_ended-2 w ↦ rw (w.self-is, w.if-has_ended-2.false) (own-unmarked c.args.client kept pile damage)
    ] in
    subst (λ (new : Damaged). MarksOwnIf (is_some c.clear.new.resident.client.ended) c.args.client kept pile damage new) (sym c.clear.ensures.damage)
    (subst (λ (b : Bool). MarksOwnIf b c.args.client kept pile damage c.if-has_ended-2.self.damage) (sym ended) marks)
