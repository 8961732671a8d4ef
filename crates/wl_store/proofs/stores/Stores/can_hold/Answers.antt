use Rattle.std.proofs.Common.{subst}
use Rattle.wl_store.specs.Kept.{seen}
use Rattle.wl_store.specs.Stores.{IsPlace}
use Rattle.wl_store.proofs.Kept.{seen-read}
use Rattle.wl_store.proofs.Refusals.{can-hold-read, store-read}
use Rattle.wl_store.proofs.stores.Stores.can_hold.Goals as goal

pub returns : goal.returns
returns g c =
    let stores = c.self.inside.held.items in
    let held = seen stores in
    let place = c.in-Some.place in
    let at = subst (λ h. IsPlace (seen h) c.args.store place) c.deref.ensures.value c.in-Some.ensures.found in
    let is = seen-read stores place c.index.result.now at.within c.index.ensures in
    let found = store-read held c.self.inside.made c.args.self.now c.args.store place c.index.result.now.held c.self.view_is at is in
    can-hold-read c.args.self.now c.args.store c.uses.result c.index.result.now.held found c.uses.ensures
