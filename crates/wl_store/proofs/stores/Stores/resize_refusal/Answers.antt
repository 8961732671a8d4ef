use Rattle.std.proofs.Common.{subst, w32}
use Rattle.std.proofs.lemmas.Int.{to_z-of_z}
use Rattle.wl_store.specs.Kept.{seen}
use Rattle.wl_store.specs.Stores.{IsPlace}
use Rattle.wl_store.proofs.Kept.{seen-read}
use Rattle.wl_store.proofs.Refusals.{resize-refused}
use Rattle.wl_store.proofs.stores.Stores.resize_refusal.Goals as goal

pub returns : goal.returns
returns g c =
    let stores = c.self.inside.held.items in
    let held = seen stores in
    let read = c.index.result.now.held in
    let at = subst (λ h. IsPlace (seen h) c.args.store c.in-Some.place) c.deref.ensures.value c.in-Some.ensures.found in
    let is = seen-read stores c.in-Some.place c.index.result.now at.within c.index.ensures in
    let refused = resize-refused held c.self.inside.made c.self.inside.total c.args.self.now c.args.store c.in-Some.place c.args.size read c.self.view_is c.self.invariant.sound at is in
    let first = simp (to_z-of_z w32 c.args.size c.ranges.size, c.size.ensures.value) at c.size_refusal.ensures.first in
    rw (refused, ← first)
