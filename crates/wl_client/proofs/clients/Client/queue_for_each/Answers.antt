use Rattle.std.proofs.Common.{◌≡◌, ℕ, ◌∙◌, ap, None, Some}
use Rattle.spec_desktop.specs.Peer.{queued}
use Rattle.spec_desktop.specs.Told.{Said, said}
use Rattle.wl_client.specs.Pointers.{pointer_message}
use Rattle.wl_client.specs.Said.{said_of}
use Rattle.wl_client.specs.View.{ClientView}
use Rattle.wl_client.proofs.Peers.{IsPeer-queued}
use Rattle.wl_client.proofs.Telling.{IsPeer-opened, IsPeer-to_end, all-told, only-queued, only-refused, then-told, then-untold, to_end-for}
use Rattle.wl_client.proofs.clients.Client.queue_for_each.Goals as goal

pub returns-in_err-queue-clause-tells : goal.returns-in_err-queue-clause-tells
returns-in_err-queue-clause-tells g c = λ p is.
    let m = c.loop-pointer.invariant.told p is in
    let cause = c.in_err-queue.field-0.0 in
    let says : ℕ → Said = λ pointer. said pointer (pointer_message c.args.event c.args.serial) in
    let why = to_end-for c.loop-pointer.self c.queue.new.self cause c.in_err-queue.ensures.err in (
      m.0,
      rw why (m.2 m.0 (Some cause) (then-untold says c.args.pointers.now c.loop-pointer.pointer-index _ m.0 cause _ c.loop-pointer-test.true c.of.ensures m.1 c.in_err-queue.ensures.cause)),
      IsPeer-to_end c.loop-pointer.self c.queue.new.self m.0 cause c.in_err-queue.ensures.err m.1,
    )

pub returns-in_err-queue-clause-only : goal.returns-in_err-queue-clause-only
returns-in_err-queue-clause-only g c = only-refused c.args.self.now c.loop-pointer.self c.queue.new.self _ c.loop-pointer.invariant.only c.in_err-queue.ensures.err

pub loop-pointer-preserved : goal.loop-pointer-preserved
loop-pointer-preserved g c = record {
  told = λ p is.
      let m = c.loop-pointer.invariant.told p is in
      let says : ℕ → Said = λ pointer. said pointer (pointer_message c.args.event c.args.serial) in (
        queued (said_of c.of.result) m.0,
        rw c.in_ok-queue.ensures.ok.2 (IsPeer-queued _ m.0 (said_of c.of.result) m.1),
        λ q why later. m.2 q why (then-told says c.args.pointers.now c.loop-pointer.pointer-index _ m.0 q why _ c.loop-pointer-test.true c.of.ensures m.1 c.in_ok-queue.ensures.ok.1 later),
      );
  only = only-queued c.args.self.now c.loop-pointer.self c.queue.new.self _ c.loop-pointer.invariant.only c.in_ok-queue.ensures.ok.2;
}

pub returns-clause-tells : goal.returns-clause-tells
returns-clause-tells g c = λ p is.
    let m = c.loop-pointer.invariant.told p is in
    let says : ℕ → Said = λ pointer. said pointer (pointer_message c.args.event c.args.serial) in
    let none : c.loop-pointer.self.refused ≡ None = ap (λ (v : ClientView). v.refused) c.loop-pointer.invariant.only ∙ is.open in
    (m.0, rw none (m.2 m.0 None (all-told says c.args.pointers.now c.loop-pointer.pointer-index m.0 c.loop-pointer-test.false)), IsPeer-opened _ m.0 m.1)
