use Rattle.std.proofs.Common.{get_or, [], ap, ◌∙◌}
use Rattle.wl_proto.specs.declared.event.Event.{Event}
use Rattle.wl_proto.specs.declared.event.EventBody.TheVariants.{WlDisplay}
use Rattle.wl_proto.specs.declared.wl_display.WlDisplayEvent.TheVariants.{Error}
use Rattle.spec_desktop.specs.Peer.{queued, ended}
use Rattle.wl_client.specs.Said.{said_of}
use Rattle.wl_client.specs.View.{ClientView}
use Rattle.wl_client.proofs.Peers.{IsPeer-queued, IsPeer-unqueued, Queues-refused, Queues-queued, Queues-none}
use Rattle.wl_client.proofs.clients.Client.queue_all.Goals as goal

-- what stands for an event past the last
abbrev no_event : Event
no_event = record { object = 0; body = WlDisplay (Error 0 0 (record { ref_ptr = (0, 0); now = [] })) }

pub returns-in-Err-clause-queues : goal.returns-in-Err-clause-queues
returns-in-Err-clause-queues g c = λ p is.
    let m = c.loop-event.invariant.told p is in
    let cause = c.in-Err.cause in (
      ended cause m.0,
      m.2 _ (Queues-refused said_of c.args.events.now c.loop-event.event-index _ _ m.0 cause c.loop-event-test.true m.1 c.in-Err.ensures.cause),
      rw c.end.ensures.cleared (IsPeer-unqueued _ _ m.0 cause cause c.in-Err.ensures.err m.1),
    )

pub loop-event-preserved : goal.loop-event-preserved
loop-event-preserved g c = record {
  rest = rw c.in_default.ensures.ok.2 c.loop-event.invariant.rest;
  table = ap (λ (v : ClientView). v.objects) c.in_default.ensures.ok.2 ∙ c.loop-event.invariant.table;
  told = λ p is.
      let m = c.loop-event.invariant.told p is in (
        queued (said_of (get_or c.args.events.now c.loop-event.event-index no_event)) m.0,
        rw c.in_default.ensures.ok.2 (IsPeer-queued _ m.0 (said_of (get_or c.args.events.now c.loop-event.event-index no_event)) m.1),
        λ q later. m.2 q (Queues-queued said_of c.args.events.now c.loop-event.event-index no_event _ m.0 q c.loop-event-test.true m.1 c.in_default.ensures.ok.1 later),
      );
}

pub returns-clause-queues : goal.returns-clause-queues
returns-clause-queues g c = λ p is.
    let m = c.loop-event.invariant.told p is in
    (m.0, m.2 m.0 (Queues-none said_of c.args.events.now c.loop-event.event-index m.0 c.loop-event-test.false), m.1)
