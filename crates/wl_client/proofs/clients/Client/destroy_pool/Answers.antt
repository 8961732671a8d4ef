use Rattle.std.proofs.Common.{None, refl}
use Rattle.spec_desktop.specs.Peer.{released}
use Rattle.wl_client.proofs.Peers.{IsPeer-pools, IsPeer-stores}
use Rattle.wl_client.proofs.clients.Client.destroy_pool.Goals as goal

pub returns-clause-acts : goal.returns-clause-acts
returns-clause-acts g c = λ p is.
    let seen = rw (← c.self.view_is) at is in
    let left = IsPeer-pools _ p c.self.inside.pools c.remove-pool.new.self c.args.id None refl c.remove-pool.ensures.updates seen in
    c.remove.ensures.removes _ (IsPeer-stores _ _ (released c.args.store) _ (rw c.let_go-live.ensures.live at c.let_go-live.ensures.counted) left)
