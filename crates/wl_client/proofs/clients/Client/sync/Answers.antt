use Rattle.wl_client.proofs.Peers.{Queues-told, told_both}
use Rattle.wl_client.proofs.clients.Client.sync.Goals as goal

pub returns-clause-acts : goal.returns-clause-acts
returns-clause-acts g c = λ p is.
    let next = c.queue_all.ensures.queues p is in
    (next.0, Queues-told _ _ p next.0 (told_both _ _ _ _ c.callback_event.ensures c.deletion_event.ensures) next.1, next.2)
