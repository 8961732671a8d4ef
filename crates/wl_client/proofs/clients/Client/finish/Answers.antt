use Rattle.wl_client.proofs.Peers.{IsPeer-removed, Queues-told, told_both}
use Rattle.wl_client.proofs.clients.Client.finish.Goals as goal

pub returns-clause-tells : goal.returns-clause-tells
returns-clause-tells g c = λ p is.
    let seen = rw (← c.self.view_is) at is in
    let next = c.queue_all.ensures.queues _ (IsPeer-removed _ p c.args.callback _ _ c.remove-removed.ensures.found c.remove-removed.ensures.removed c.remove-removed.ensures.len seen) in
    (next.0, Queues-told _ _ _ next.0 (told_both _ _ _ _ c.frame_event.ensures c.deletion_event.ensures) next.1, next.2)
