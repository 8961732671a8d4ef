use Rattle.std.proofs.Common.{None, refl}
use Rattle.wl_client.proofs.Peers.{IsPeer-regions}
use Rattle.wl_client.proofs.clients.Client.destroy_region.Goals as goal

pub returns-clause-acts : goal.returns-clause-acts
returns-clause-acts g c = λ p is.
    let seen = rw (← c.self.view_is) at is in
    c.remove.ensures.removes _ (IsPeer-regions _ p c.self.inside.regions c.remove-region.new.self c.args.id None None refl c.remove-region.ensures.updates tt seen)
