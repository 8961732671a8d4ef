use Rattle.wl_store.proofs.Refusals.{held-more, held-out, store-read}
use Rattle.std.proofs.Common.{◌≡◌, ℕ, ◌+◌, List, length, ap, subst, ◌∙◌, arith}
use Rattle.wl_store.specs.Kept.{Kept, seen}
use Rattle.wl_store.specs.Stores.{Held, IsPlace, Stock, used}
use Rattle.wl_store.proofs.Kept.{kept-set, lends-same, seen-read, seen-set, within-seen}
use Rattle.wl_store.proofs.Places.{reads-same}
use Rattle.wl_store.proofs.Sound.{changed-is, sound-same}
use Rattle.wl_store.proofs.stores.Stores.hold.Goals as goal

pub invariant_of-self : goal.invariant_of-self
invariant_of-self g c =
    let stores = c.self.inside.held.items in
    let place = c.in-Some.place in
    let at = subst (λ h. IsPlace (seen h) c.args.store place) c.deref.ensures.value c.in-Some.ensures.found in
    let old = c.index_mut.result.now in
    let new = c.set_uses.new.self in
    let number : new.held.number ≡ old.held.number = ap (λ (s : Kept). s.held.number) c.set_uses.ensures in
    let size : length new.held.bytes ≡ length old.held.bytes = ap (λ (s : Kept). length s.held.bytes) c.set_uses.ensures in
    kept-set stores c.self.inside.made c.self.inside.total c.self.inside.zeros place new
    (sound-same (seen stores) c.self.inside.made c.self.inside.total c.args.store place old.held new.held c.self.invariant.sound at (seen-read stores place old at.within c.index_mut.ensures.value) number size)
    (lends-same c.self.inside.zeros place stores old new c.self.invariant.lends (within-seen stores place at.within) c.index_mut.ensures.value (ap (λ (s : Kept). s.blank) c.set_uses.ensures) size)

pub returns-clause-counted : goal.returns-clause-counted
returns-clause-counted g c =
    let stock : List Held → Stock = λ held. record { held = held; made = c.self.inside.made } in
    let stores = c.self.inside.held.items in
    let place = c.in-Some.place in
    let at = subst (λ h. IsPlace (seen h) c.args.store place) c.deref.ensures.value c.in-Some.ensures.found in
    let old = c.index_mut.result.now in
    let new = c.set_uses.new.self in
    let was = seen-read stores place old at.within c.index_mut.ensures.value in
    let change : Held → Held = λ s. record s { uses = s.uses + 1 } in
    let more : ℕ → Held = λ n. record old.held { uses = n + 1 } in
    let same = reads-same (seen stores) place c.index.result.now.held old.held at.within (seen-read stores place c.index.result.now at.within c.index.ensures) was in
    ap stock (seen-set stores place new ∙ changed-is (seen stores) c.self.inside.made c.self.inside.total c.args.store place change old.held new.held c.self.invariant.sound at was
    (ap (λ (s : Kept). s.held) c.set_uses.ensures ∙ ap more (c.uses-uses.ensures ∙ ap (λ s. s.uses) same)))
    ∙ ap (used c.args.store) c.self.view_is

pub returns-then-uses-clause-allowed : goal.returns-then-uses-clause-allowed
returns-then-uses-clause-allowed g c =
    let stores = c.self.inside.held.items in
    let place = c.in-Some.place in
    let at = subst (λ h. IsPlace (seen h) c.args.store place) c.deref.ensures.value c.in-Some.ensures.found in
    let is = seen-read stores place c.index.result.now at.within c.index.ensures in
    let found = store-read (seen stores) c.self.inside.made c.args.self.now c.args.store place c.index.result.now.held c.self.view_is at is in
    held-out c.args.self.now c.args.store c.index.result.now.held found (omega (arith, c.uses-uses.ensures))

pub returns-clause-allowed : goal.returns-clause-allowed
returns-clause-allowed g c =
    let stores = c.self.inside.held.items in
    let place = c.in-Some.place in
    let at = subst (λ h. IsPlace (seen h) c.args.store place) c.deref.ensures.value c.in-Some.ensures.found in
    let is = seen-read stores place c.index.result.now at.within c.index.ensures in
    let found = store-read (seen stores) c.self.inside.made c.args.self.now c.args.store place c.index.result.now.held c.self.view_is at is in
    held-more c.args.self.now c.args.store c.index.result.now.held found (omega (arith, c.uses-uses.ensures))
