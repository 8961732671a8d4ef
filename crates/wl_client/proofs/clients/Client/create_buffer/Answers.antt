use Rattle.std.proofs.Common.{◌≡◌, ℕ, Some, refl, ◌∙◌, ap, inl, subst}
use Rattle.std.specs.BTreeMap.{UpdatesBy}
use Rattle.std.specs.Ordering.{nat_cmp}
use Rattle.wl_store.specs.Stores.{used}
use Rattle.spec_desktop.specs.Buffers.{Buffer, numbered}
use Rattle.wl_client.proofs.Peers.{IsPeer-buffers, IsPeer-stores, counted-below}
use Rattle.wl_client.proofs.clients.Client.create_buffer.Goals as goal

pub returns-then-number-clause-acts : goal.returns-then-number-clause-acts
returns-then-number-clause-acts g c = λ p is.
    let next = c.lack_memory.ensures.lacks p is in
    (next.0, inl next.1, next.2)

pub returns-then-not-hold-clause-acts : goal.returns-then-not-hold-clause-acts
returns-then-not-hold-clause-acts g c = λ p is.
    let seen = rw (← c.self.view_is) at is in
    let kept = rw c.if-not-hold.true at c.hold.ensures.counted in
    let next = c.lack_memory-then-not-hold.ensures.lacks p (rw kept seen) in
    (next.0, inl next.1, next.2)

pub returns-in-Ok-clause-acts : goal.returns-in-Ok-clause-acts
returns-in-Ok-clause-acts g c = λ p is.
    let seen = rw (← c.self.view_is) at is in
    let held = rw (c.if-not-hold.false, c.store.ensures) at c.hold.ensures.counted in
    let stored = IsPeer-stores _ p (used c.args.place.store) _ held seen in
    let number : c.self.inside.requests ≡ p.requests = counted-below _ p.requests seen.requests c.if-number.false in
    let is_new : c.new.result ≡ numbered p.requests c.args.place = c.new.ensures ∙ ap (λ (n : ℕ). numbered n c.args.place) number in
    let updates = subst (λ (b : Buffer). UpdatesBy nat_cmp (nat_cmp c.args.id) c.self.inside.buffers c.insert.new.self (Some b)) is_new c.in-Ok.ensures.updates in
    c.make.ensures.makes _ (IsPeer-buffers _ _ c.self.inside.buffers c.insert.new.self c.args.id (Some (numbered p.requests c.args.place)) refl updates stored)

pub returns-in-Err-clause-acts : goal.returns-in-Err-clause-acts
returns-in-Err-clause-acts g c = λ p is.
    let seen = rw (← c.self.view_is) at is in
    let held = rw (c.if-not-hold.false, c.store.ensures) at c.hold.ensures.counted in
    let stored = IsPeer-stores _ p (used c.args.place.store) _ held seen in
    let next = c.lack_memory-in-Err.ensures.lacks (record p { stores = used c.args.place.store p.stores }) (rw c.in-Err.ensures.err stored) in
    (next.0, inl next.1, next.2)
