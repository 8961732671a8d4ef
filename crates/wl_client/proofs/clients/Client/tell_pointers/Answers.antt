use Rattle.std.proofs.Common.{◌≡◌, ℕ, ◌∙◌, ap, subst, Option, Some}
use Rattle.std.specs.Prelude.{MatchResult}
use Rattle.spec_desktop.specs.declared.cause.Cause.{Cause}
use Rattle.spec_desktop.specs.Peer.{QueuesTo}
use Rattle.wl_client.specs.Pointers.{pointers_told, serial_after}
use Rattle.wl_client.specs.View.{ClientView}
use Rattle.wl_client.proofs.Telling.{IsPeer-drawn, only-drawn}
use Rattle.wl_client.proofs.clients.Client.tell_pointers.Goals as goal

pub returns-clause-tells : goal.returns-clause-tells
returns-clause-tells g c = λ p is.
    let next = c.queue_for_each.ensures.tells _ (rw c.draw_for.ensures (IsPeer-drawn c.args.self.now p c.args.event c.args.pointers.now is)) in
    let drawn = record p { serial = serial_after c.args.event c.args.pointers.now p.serial } in (
      next.0,
      subst (λ (s : ℕ). QueuesTo (pointers_told c.args.event s c.args.pointers.now) drawn next.0 c.queue_for_each.new.self.refused) (c.serial-serial.ensures ∙ is.serial) next.1,
      next.2,
    )

pub returns-clause-only : goal.returns-clause-only
returns-clause-only g c = only-drawn c.args.self.now c.draw_for.new.self c.queue_for_each.new.self _ c.draw_for.ensures c.queue_for_each.ensures.only

pub returns-clause-drawn : goal.returns-clause-drawn
returns-clause-drawn g c = ap (λ (v : ClientView). v.serial) c.queue_for_each.ensures.only ∙ ap (λ (v : ClientView). v.serial) c.draw_for.ensures

pub returns-clause-answer : goal.returns-clause-answer
returns-clause-answer g c =
    subst (λ (was : Option Cause). MatchResult c.queue_for_each.result (λ _. c.queue_for_each.new.self.refused ≡ was) (λ cause. c.queue_for_each.new.self.refused ≡ Some cause))
    (ap (λ (v : ClientView). v.refused) c.draw_for.ensures) c.queue_for_each.ensures.answer
