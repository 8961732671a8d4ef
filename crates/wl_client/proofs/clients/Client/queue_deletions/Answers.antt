use Rattle.std.proofs.Common.{ap, ◌∙◌}
use Rattle.spec_desktop.specs.Peer.{ended, queued}
use Rattle.wl_client.specs.Said.{said_of}
use Rattle.spec_desktop.specs.Told.{id_deleted}
use Rattle.wl_client.specs.View.{ClientView}
use Rattle.wl_client.proofs.Peers.{IsPeer-queued, IsPeer-unqueued}
use Rattle.wl_client.proofs.Queueing.{then-queued, then-refused, then-none}
use Rattle.wl_client.proofs.clients.Client.queue_deletions.Goals as goal

pub returns-in-Err-clause-queues : goal.returns-in-Err-clause-queues
returns-in-Err-clause-queues g c = λ p is.
    let m = c.loop-id.invariant.told p is in
    let cause = c.in-Err.cause in (
      ended cause m.0,
      rw c.end.ensures.cleared (IsPeer-unqueued _ _ m.0 cause cause c.in-Err.ensures.err m.1),
      λ more q same. m.2 more q (rw same (then-refused id_deleted c.args.ids.now c.loop-id.id-index more _ m.0 cause _ c.loop-id-test.true c.deletion_event.ensures m.1 c.in-Err.ensures.cause)),
    )

pub loop-id-preserved : goal.loop-id-preserved
loop-id-preserved g c = record {
  rest = rw c.in_default.ensures.ok.2 c.loop-id.invariant.rest;
  table = ap (λ (v : ClientView). v.objects) c.in_default.ensures.ok.2 ∙ c.loop-id.invariant.table;
  told = λ p is.
      let m = c.loop-id.invariant.told p is in (
        queued (said_of c.deletion_event.result) m.0,
        rw c.in_default.ensures.ok.2 (IsPeer-queued _ m.0 (said_of c.deletion_event.result) m.1),
        λ more q later. m.2 more q (then-queued id_deleted c.args.ids.now c.loop-id.id-index more _ m.0 q _ c.loop-id-test.true c.deletion_event.ensures m.1 c.in_default.ensures.ok.1 later),
      );
}

pub returns-clause-queues : goal.returns-clause-queues
returns-clause-queues g c = λ p is.
    let m = c.loop-id.invariant.told p is in
    (m.0, m.1, λ more q later. m.2 more q (then-none id_deleted c.args.ids.now c.loop-id.id-index more m.0 q c.loop-id-test.false later))
