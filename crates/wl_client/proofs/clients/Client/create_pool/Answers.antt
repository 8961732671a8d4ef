use Rattle.std.proofs.Common.{◌≡◌, ℕ, Some, ◌+◌, ◌∙◌, ap, refl, inl, subst, w32}
use Rattle.std.specs.BTreeMap.{UpdatesBy}
use Rattle.std.specs.Ordering.{nat_cmp}
use Rattle.std.specs.Prelude.{unsigned_abs}
use Rattle.std.proofs.lemmas.Int.{to_z-of_z}
use Rattle.wl_store.specs.Stores.{Stock, created}
use Rattle.wl_client.proofs.Peers.{IsPeer-pools, IsPeer-stores}
use Rattle.wl_client.proofs.clients.Client.create_pool.Goals as goal

pub returns-in_default-clause-acts : goal.returns-in_default-clause-acts
returns-in_default-clause-acts g c = λ p is.
    let seen = rw (← c.self.view_is) at is in
    let next = c.lack_memory.ensures.lacks p (rw c.in_default.ensures.err seen) in
    (next.0, inl next.1, next.2)

pub returns-in-Ok-insert-clause-acts : goal.returns-in-Ok-insert-clause-acts
returns-in-Ok-insert-clause-acts g c = λ p is.
    let seen = rw (← c.self.view_is) at is in
    let made = simp (to_z-of_z w32 c.args.size c.ranges.size) at c.in-Ok.ensures.ok in
    let stored = IsPeer-stores _ p (created (unsigned_abs c.args.size)) _ made seen in
    let number : c.in-Ok.store ≡ p.stores.made + 1 = c.in-Ok.ensures.number ∙ ap (λ (s : Stock). s.made + 1) seen.stores in
    let updates = subst (λ (k : ℕ). UpdatesBy nat_cmp (nat_cmp c.args.id) c.self.inside.pools c.insert.new.self (Some k)) number c.in-Ok-insert.ensures.updates in
    c.make.ensures.makes _ (IsPeer-pools _ _ c.self.inside.pools c.insert.new.self c.args.id (Some (p.stores.made + 1)) refl updates stored)

pub returns-in-Err-clause-acts : goal.returns-in-Err-clause-acts
returns-in-Err-clause-acts g c = λ p is.
    let seen = rw (← c.self.view_is) at is in
    let made = simp (to_z-of_z w32 c.args.size c.ranges.size) at c.in-Ok.ensures.ok in
    let stored = IsPeer-stores _ p (created (unsigned_abs c.args.size)) _ made seen in
    let next = c.lack_memory-in-Err.ensures.lacks (record p { stores = created (unsigned_abs c.args.size) p.stores }) (rw c.in-Err.ensures.err stored) in
    (next.0, inl next.1, next.2)
