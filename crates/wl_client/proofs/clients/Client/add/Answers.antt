use Rattle.std.proofs.Common.{inl, inr}
use Rattle.wl_client.proofs.Peers.{IsPeer-made}
use Rattle.wl_client.proofs.clients.Client.add.Goals as goal

pub returns-in-Ok-clause-makes : goal.returns-in-Ok-clause-makes
returns-in-Ok-clause-makes g c = λ p is.
    let seen = rw (← c.self.view_is) at is in
    let next = c.queue_all.ensures.queues _ (IsPeer-made _ p c.args.id _ _ c.in-Ok.ensures.ok c.in-Ok.ensures.len seen) in
    (next.0, inr next.1, next.2)

pub returns-in-Err-clause-makes : goal.returns-in-Err-clause-makes
returns-in-Err-clause-makes g c = λ p is.
    let seen = rw (← c.self.view_is) at is in
    let next = c.lack_memory.ensures.lacks p (rw c.in-Err.ensures.err seen) in
    (next.0, inl next.1, next.2)
