use Rattle.std.proofs.Common.{[], ◌∷◌, ap}
use Rattle.wl_client.proofs.Peers.{IsPeer-removed, Queues-told}
use Rattle.wl_client.proofs.clients.Client.remove.Goals as goal

pub returns-clause-removes : goal.returns-clause-removes
returns-clause-removes g c = λ p is.
    let seen = rw (← c.self.view_is) at is in
    let next = c.queue_all.ensures.queues _ (IsPeer-removed _ p c.args.id _ _ c.remove-removed.ensures.found c.remove-removed.ensures.removed c.remove-removed.ensures.len seen) in
    (next.0, Queues-told _ _ _ next.0 (ap (λ e. e ∷ []) c.deletion_event.ensures) next.1, next.2)
