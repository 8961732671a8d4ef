use Rattle.std.proofs.Common.{Some, [], refl, inl}
use Rattle.wl_client.proofs.Peers.{IsPeer-regions}
use Rattle.wl_client.proofs.clients.Client.create_region.Goals as goal

pub returns-in-Ok-clause-acts : goal.returns-in-Ok-clause-acts
returns-in-Ok-clause-acts g c = λ p is.
    let seen = rw (← c.self.view_is) at is in
    c.make.ensures.makes _ (IsPeer-regions _ p c.self.inside.regions c.insert.new.self c.args.id (Some c.new.result) (Some []) refl c.in-Ok.ensures.updates c.new.ensures seen)

pub returns-clause-acts : goal.returns-clause-acts
returns-clause-acts g c = λ p is.
    let seen = rw (← c.self.view_is) at is in
    let next = c.lack_memory.ensures.lacks p (rw c.in-Err.ensures.err seen) in
    (next.0, inl next.1, next.2)
