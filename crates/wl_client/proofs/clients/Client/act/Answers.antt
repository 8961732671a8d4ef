use Rattle.std.proofs.Common.{rules, w32}
use Rattle.std.specs.Prelude.{FitsSigned}
use Rattle.std.proofs.lemmas.Int.{to_z-of_z}
use Rattle.spec_desktop.specs.Peer.{counted}
use Rattle.wl_client.proofs.clients.Client.act.Goals as goal

pub returns-in-Sync-clause-acts : goal.returns-in-Sync-clause-acts
returns-in-Sync-clause-acts g c = λ p is.
    let next = c.sync.ensures.acts (counted p) (c.count.ensures.counts p is) in
    (next.0, rw c.in-Sync.is next.1, next.2)

pub returns-in-GetRegistry-clause-acts : goal.returns-in-GetRegistry-clause-acts
returns-in-GetRegistry-clause-acts g c = λ p is.
    let next = c.get_registry.ensures.acts (counted p) (c.count.ensures.counts p is) in
    (next.0, rw c.in-GetRegistry.is next.1, next.2)

pub returns-in-Bind-clause-acts : goal.returns-in-Bind-clause-acts
returns-in-Bind-clause-acts g c = λ p is.
    let next = c.bind.ensures.acts (counted p) (c.count.ensures.counts p is) in
    (next.0, rw c.in-Bind.is next.1, next.2)

pub returns-in-CreateRegion-clause-acts : goal.returns-in-CreateRegion-clause-acts
returns-in-CreateRegion-clause-acts g c = λ p is.
    let next = c.create_region.ensures.acts (counted p) (c.count.ensures.counts p is) in
    (next.0, rw c.in-CreateRegion.is next.1, next.2)

pub returns-in-AddToRegion-clause-acts : goal.returns-in-AddToRegion-clause-acts
returns-in-AddToRegion-clause-acts g c = λ p is.
    let next = c.add_to_region.ensures.acts (counted p) (c.count.ensures.counts p is) in
    (next.0, rw c.in-AddToRegion.is next.1, next.2)

pub returns-in-SubtractFromRegion-clause-acts : goal.returns-in-SubtractFromRegion-clause-acts
returns-in-SubtractFromRegion-clause-acts g c = λ p is.
    let next = c.subtract_from_region.ensures.acts (counted p) (c.count.ensures.counts p is) in
    (next.0, rw c.in-SubtractFromRegion.is next.1, next.2)

pub returns-in-DestroyRegion-clause-acts : goal.returns-in-DestroyRegion-clause-acts
returns-in-DestroyRegion-clause-acts g c = λ p is.
    let next = c.destroy_region.ensures.acts (counted p) (c.count.ensures.counts p is) in
    (next.0, rw c.in-DestroyRegion.is next.1, next.2)

pub returns-in-CreatePool-clause-acts : goal.returns-in-CreatePool-clause-acts
returns-in-CreatePool-clause-acts g c = λ p is.
    let size-fits : FitsSigned w32 c.in-CreatePool.size = search rules in
    let size = to_z-of_z w32 c.in-CreatePool.size size-fits in
    let next = c.create_pool.ensures.acts (counted p) (c.count.ensures.counts p is) in
    (next.0, rw c.in-CreatePool.is (simp size at next.1), next.2)

pub returns-in-CreateBuffer-clause-acts : goal.returns-in-CreateBuffer-clause-acts
returns-in-CreateBuffer-clause-acts g c = λ p is.
    let next = c.create_buffer.ensures.acts (counted p) (c.count.ensures.counts p is) in
    (next.0, rw c.in-CreateBuffer.is next.1, next.2)

pub returns-in-ResizePool-clause-acts : goal.returns-in-ResizePool-clause-acts
returns-in-ResizePool-clause-acts g c = λ p is.
    let size-fits : FitsSigned w32 c.in-ResizePool.size = search rules in
    let size = to_z-of_z w32 c.in-ResizePool.size size-fits in
    let next = c.resize_pool.ensures.acts (counted p) (c.count.ensures.counts p is) in
    (next.0, rw c.in-ResizePool.is (simp size at next.1), next.2)

pub returns-in-DestroyPool-clause-acts : goal.returns-in-DestroyPool-clause-acts
returns-in-DestroyPool-clause-acts g c = λ p is.
    let next = c.destroy_pool.ensures.acts (counted p) (c.count.ensures.counts p is) in
    (next.0, rw c.in-DestroyPool.is next.1, next.2)

pub returns-in-DestroyBuffer-clause-acts : goal.returns-in-DestroyBuffer-clause-acts
returns-in-DestroyBuffer-clause-acts g c = λ p is.
    let next = c.destroy_buffer.ensures.acts (counted p) (c.count.ensures.counts p is) in
    (next.0, rw c.in-DestroyBuffer.is next.1, next.2)

pub returns-in-CreatePositioner-clause-acts : goal.returns-in-CreatePositioner-clause-acts
returns-in-CreatePositioner-clause-acts g c = λ p is.
    let next = c.create_positioner.ensures.acts (counted p) (c.count.ensures.counts p is) in
    (next.0, rw c.in-CreatePositioner.is next.1, next.2)

pub returns-in-SetPositioner-clause-acts : goal.returns-in-SetPositioner-clause-acts
returns-in-SetPositioner-clause-acts g c = λ p is.
    let next = c.set_positioner.ensures.acts (counted p) (c.count.ensures.counts p is) in
    (next.0, rw c.in-SetPositioner.is next.1, next.2)

pub returns-in-DestroyPositioner-clause-acts : goal.returns-in-DestroyPositioner-clause-acts
returns-in-DestroyPositioner-clause-acts g c = λ p is.
    let next = c.destroy_positioner.ensures.acts (counted p) (c.count.ensures.counts p is) in
    (next.0, rw c.in-DestroyPositioner.is next.1, next.2)
