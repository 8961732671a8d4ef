use Rattle.std.proofs.Common.{◌≡◌, ap, refl, subst, sym}
use Rattle.std.specs.Prelude.{is_none}
use Rattle.wl_paint.specs.Damage.{Damaged}
use Rattle.spec_desktop.specs.Peer.{left_by}
use Rattle.spec_desktop.specs.declared.answers.Done.TheVariants as gave
use Rattle.wl_clients.specs.Marking.{MarksOwn, MarksOwnIf}
use Rattle.wl_clients.specs.Seats.{IsClearedBy}
use Rattle.wl_clients.specs.View.{Pile, pile_of}
use Rattle.wl_clients.proofs.OnScreen.Marked.{lives-none, own-marked, own-unmarked, pile-same}
use Rattle.wl_clients.proofs.OnScreen.Telling.{told-gone, told-seated}
use Rattle.wl_clients.proofs.screen.screens.Screen.gone.Goals as goal
use Rattle.wl_clients.proofs.screen.screens.Screen.gone.Goals.{then-not-has_ended, else-not-has_ended}

pub returns-clause-changes : goal.returns-clause-changes
returns-clause-changes g c = λ others base d r is.
    let old = c.args.resident.now in
    let mid = record old { client = c.gone-lived.new.self } in
    let next = c.gone-lived.ensures r.peer is.seat.peer in
    let same : pile_of c.if-not-has_ended.self ≡ pile_of c.args.self.now = elim c.if-not-has_ended.branch [
      | then-not-has_ended w ↦ rw w.self-is (pile-same c.args.self.now w.mark_client.new.self w.mark_client.ensures.scene w.mark_client.ensures.stacked)
      | else-not-has_ended w ↦ rw w.self-is refl
    ] in
    let left = subst (λ (was : Pile). IsClearedBy mid.client.ended c.args.client mid c.clear.new.resident was (pile_of c.clear.new.self)) same c.clear.ensures.clears in (
      left_by r.peer.status r.peer,
      _,
      (refl, ap (λ b. gave.Gone b) next.1),
      told-seated c.args.client others base d r old mid c.clear.new.resident (pile_of c.args.self.now) (pile_of c.clear.new.self) is _ (told-gone old mid r next.0 refl refl) left,
    )

pub returns-clause-marks : goal.returns-clause-marks
returns-clause-marks g c =
    let kept = c.args.resident.now in
    let pile = pile_of c.args.self.now in
    let damage = c.args.self.now.damage in
    let lives = lives-none kept.client.ended c.has_ended.result c.has_ended.ensures in
    let marks : MarksOwnIf (is_none kept.client.ended) c.args.client kept pile damage c.if-not-has_ended.self.damage = elim c.if-not-has_ended.branch [
      | then-not-has_ended w ↦ rw (w.self-is, lives, w.if-not-has_ended.true) (own-marked c.args.client kept pile damage w.mark_client.new.self.damage w.mark_client.ensures.points
          w.mark_client.ensures.sides)
      | else-not-has_ended w ↦ rw (w.self-is, lives, w.if-not-has_ended.false) (own-unmarked c.args.client kept pile damage)
    ] in
    subst (λ (new : Damaged). MarksOwn kept.client.ended c.args.client kept pile damage new) (sym c.clear.ensures.damage) marks
