use Rattle.std.proofs.Common.{None, refl}
use Rattle.wl_client.proofs.Peers.{IsPeer-positioners}
use Rattle.wl_client.proofs.clients.Client.destroy_positioner.Goals as goal

pub returns-clause-acts : goal.returns-clause-acts
returns-clause-acts g c = λ p is.
    let seen = rw (← c.self.view_is) at is in
    c.remove.ensures.removes _ (IsPeer-positioners _ p c.self.inside.positioners c.remove-positioner.new.self c.args.id None refl c.remove-positioner.ensures.updates seen)
