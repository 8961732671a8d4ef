use Rattle.std.proofs.Common.{sym, ◌∙◌}
use Rattle.wl_client.specs.Said.{said_of}
use Rattle.wl_client.proofs.Peers.{Errs-told, Errs-untold, unqueued-slow}
use Rattle.wl_client.proofs.clients.Client.refuse.Goals as goal
use Rattle.wl_client.proofs.clients.Client.refuse.Goals.{in-Ok, in-Err+in-Memory, in-Err+in_default}

pub returns-clause-errs : goal.returns-clause-errs
returns-clause-errs g c = λ p is. elim c.match-queue.branch [
  | in-Ok w ↦ (
      let next = Errs-told _ _ p c.args.refusal _ c.error_event.ensures is w.in-Ok.ensures.ok in
      (next.0, next.1, rw (c.end.ensures.cleared, w.cause-is, w.number.ensures) next.2))
  | in-Err+in-Memory w ↦ (
      let next = Errs-untold _ _ p c.args.refusal _ w.in-Err.cause c.error_event.ensures is w.in-Err.ensures.cause w.in-Err.ensures.err in
      (next.0, next.1, rw (c.end.ensures.cleared, w.cause-is ∙ sym w.in-Memory.is) next.2))
  | in-Err+in_default w ↦ (
      let next = Errs-untold _ _ p c.args.refusal _ w.in-Err.cause c.error_event.ensures is w.in-Err.ensures.cause w.in-Err.ensures.err in
      let slow = unqueued-slow c.args.self.now p (said_of c.error_event.result) w.in-Err.cause is w.in-Err.ensures.cause w.in_default.not-Memory in
      (next.0, next.1, rw (c.end.ensures.cleared, w.cause-is ∙ slow) next.2))
]
