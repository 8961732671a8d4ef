use Rattle.std.proofs.Common.{refl, inl, inr, w32}
use Rattle.std.specs.Prelude.{unsigned_abs}
use Rattle.std.proofs.lemmas.Int.{to_z-of_z}
use Rattle.wl_store.specs.Stores.{resized}
use Rattle.spec_desktop.specs.declared.actions.Action.TheVariants.{ResizePool}
use Rattle.spec_desktop.specs.Peer.{changed}
use Rattle.wl_client.proofs.Peers.{IsPeer-stores}
use Rattle.wl_client.proofs.clients.Client.resize_pool.Goals as goal

pub returns-in-Ok-clause-acts : goal.returns-in-Ok-clause-acts
returns-in-Ok-clause-acts g c = λ p is.
    let seen = rw (← c.self.view_is) at is in
    let new = simp (to_z-of_z w32 c.args.size c.ranges.size) at c.in-Ok.ensures.ok in
    (changed (ResizePool c.args.store c.args.size) p, inr refl, IsPeer-stores _ p (resized c.args.store (unsigned_abs c.args.size)) _ new seen)

pub returns-in-Err-clause-acts : goal.returns-in-Err-clause-acts
returns-in-Err-clause-acts g c = λ p is.
    let seen = rw (← c.self.view_is) at is in
    let next = c.lack_memory.ensures.lacks p (rw c.in-Err.ensures.err seen) in
    (next.0, inl next.1, next.2)
