use Rattle.std.proofs.Common.{Some, refl, inl}
use Rattle.wl_client.proofs.Peers.{IsPeer-positioners}
use Rattle.wl_client.proofs.clients.Client.create_positioner.Goals as goal

pub returns-in-Ok-clause-acts : goal.returns-in-Ok-clause-acts
returns-in-Ok-clause-acts g c = λ p is.
    let seen = rw (← c.self.view_is) at is in
    c.make.ensures.makes _ (rw c.new.ensures at (IsPeer-positioners _ p c.self.inside.positioners c.insert.new.self c.args.id (Some c.new.result) refl c.in-Ok.ensures.updates seen))

pub returns-in-Err-clause-acts : goal.returns-in-Err-clause-acts
returns-in-Err-clause-acts g c = λ p is.
    let seen = rw (← c.self.view_is) at is in
    let next = c.lack_memory.ensures.lacks p (rw c.in-Err.ensures.err seen) in
    (next.0, inl next.1, next.2)
