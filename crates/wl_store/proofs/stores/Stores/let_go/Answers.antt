use Rattle.std.proofs.Common.{◌≡◌, ℕ, ◌-◌, List, length, ap, subst, sym, ◌∙◌, arith}
use Rattle.wl_store.specs.Kept.{Kept, seen}
use Rattle.wl_store.specs.Stores.{Held, IsPlace, IsSound, Stock, with_change, without_store}
use Rattle.wl_store.proofs.Kept.{kept-set, lends-remove, lends-same, seen-read, seen-remove, seen-set, within-seen}
use Rattle.wl_store.proofs.Places.{reads-same}
use Rattle.wl_store.proofs.Refusals.{let_go-last, let_go-other, live, not-live, not-there, store-read}
use Rattle.wl_store.proofs.Sound.{changed-is, removed-is, size-in_total, sound-removed, sound-same}
use Rattle.wl_store.proofs.stores.Stores.let_go.Goals as goal

pub overflow_sub-self : goal.overflow_sub-self
overflow_sub-self g c =
    let stores = c.self.inside.held.items in
    let place = c.in-Some.place in
    let at = subst (λ h. IsPlace (seen h) c.args.store place) c.deref.ensures.value c.in-Some.ensures.found in
    let is = seen-read stores place c.index-then-uses-le1.result.now at.within c.index-then-uses-le1.ensures in
    let within = size-in_total (seen stores) c.self.inside.made c.self.inside.total place c.index-then-uses-le1.result.now.held c.self.invariant.sound at.within in
    omega (arith, within, ap (λ (s : Held). length s.bytes) is, c.size.ensures.value)

pub invariant_of-self : goal.invariant_of-self
invariant_of-self g c =
    let stores = c.self.inside.held.items in
    let place = c.in-Some.place in
    let at = subst (λ h. IsPlace (seen h) c.args.store place) c.deref.ensures.value c.in-Some.ensures.found in
    let is = seen-read stores place c.index-then-uses-le1.result.now at.within c.index-then-uses-le1.ensures in
    let sound = sound-removed (seen stores) c.self.inside.made c.self.inside.total c.size.result c.args.store place c.index-then-uses-le1.result.now.held c.self.invariant.sound at is c.size.ensures.value in
    rw c.remove-gone.ensures.items (record {
      sound = subst (λ (h : List Held). IsSound h c.self.inside.made (c.self.inside.total - c.size.result)) (sym (seen-remove stores place)) sound;
      lends = lends-remove c.self.inside.zeros place stores c.self.invariant.lends;
    })

pub invariant_of-self-else-uses-le1 : goal.invariant_of-self-else-uses-le1
invariant_of-self-else-uses-le1 g c =
    let stores = c.self.inside.held.items in
    let place = c.in-Some.place in
    let at = subst (λ h. IsPlace (seen h) c.args.store place) c.deref.ensures.value c.in-Some.ensures.found in
    let old = c.index_mut.result.now in
    let new = c.set_uses.new.self in
    let number : new.held.number ≡ old.held.number = ap (λ (s : Kept). s.held.number) c.set_uses.ensures in
    let size : length new.held.bytes ≡ length old.held.bytes = ap (λ (s : Kept). length s.held.bytes) c.set_uses.ensures in
    kept-set stores c.self.inside.made c.self.inside.total c.self.inside.zeros place new
    (sound-same (seen stores) c.self.inside.made c.self.inside.total c.args.store place old.held new.held c.self.invariant.sound at (seen-read stores place old at.within c.index_mut.ensures.value) number size)
    (lends-same c.self.inside.zeros place stores old new c.self.invariant.lends (within-seen stores place at.within) c.index_mut.ensures.value (ap (λ (s : Kept). s.blank) c.set_uses.ensures) size)

pub returns-then-uses-le1-clause-live : goal.returns-then-uses-le1-clause-live
returns-then-uses-le1-clause-live g c =
    let stores = c.self.inside.held.items in
    let place = c.in-Some.place in
    let at = subst (λ h. IsPlace (seen h) c.args.store place) c.deref.ensures.value c.in-Some.ensures.found in
    let is = seen-read stores place c.index.result.now at.within c.index.ensures in
    let found = store-read (seen stores) c.self.inside.made c.args.self.now c.args.store place c.index.result.now.held c.self.view_is at is in
    live c.args.self.now c.args.store c.index.result.now.held found

pub returns-then-uses-le1-clause-counted : goal.returns-then-uses-le1-clause-counted
returns-then-uses-le1-clause-counted g c =
    let stock : List Held → Stock = λ held. record { held = held; made = c.self.inside.made } in
    let stores = c.self.inside.held.items in
    let place = c.in-Some.place in
    let at = subst (λ h. IsPlace (seen h) c.args.store place) c.deref.ensures.value c.in-Some.ensures.found in
    let is = seen-read stores place c.index.result.now at.within c.index.ensures in
    let found = store-read (seen stores) c.self.inside.made c.args.self.now c.args.store place c.index.result.now.held c.self.view_is at is in
    ap stock (ap seen c.remove-gone.ensures.items ∙ seen-remove stores place ∙ removed-is (seen stores) c.self.inside.made c.self.inside.total c.args.store place c.self.invariant.sound at)
    ∙ ap (without_store c.args.store) c.self.view_is
    ∙ sym (let_go-last c.args.self.now c.args.store c.index.result.now.held found (omega (arith, c.uses-uses.ensures)))

pub returns-else-uses-le1-clause-live : goal.returns-else-uses-le1-clause-live
returns-else-uses-le1-clause-live g c =
    let stores = c.self.inside.held.items in
    let place = c.in-Some.place in
    let at = subst (λ h. IsPlace (seen h) c.args.store place) c.deref.ensures.value c.in-Some.ensures.found in
    let is = seen-read stores place c.index.result.now at.within c.index.ensures in
    let found = store-read (seen stores) c.self.inside.made c.args.self.now c.args.store place c.index.result.now.held c.self.view_is at is in
    live c.args.self.now c.args.store c.index.result.now.held found

pub returns-else-uses-le1-clause-counted : goal.returns-else-uses-le1-clause-counted
returns-else-uses-le1-clause-counted g c =
    let stock : List Held → Stock = λ held. record { held = held; made = c.self.inside.made } in
    let stores = c.self.inside.held.items in
    let place = c.in-Some.place in
    let at = subst (λ h. IsPlace (seen h) c.args.store place) c.deref.ensures.value c.in-Some.ensures.found in
    let is = seen-read stores place c.index.result.now at.within c.index.ensures in
    let found = store-read (seen stores) c.self.inside.made c.args.self.now c.args.store place c.index.result.now.held c.self.view_is at is in
    let old = c.index_mut.result.now in
    let new = c.set_uses.new.self in
    let was = seen-read stores place old at.within c.index_mut.ensures.value in
    let less : Held → Held = λ s. record s { uses = s.uses - 1 } in
    let with_uses : ℕ → Held = λ n. record old.held { uses = n - 1 } in
    let same = reads-same (seen stores) place c.index.result.now.held old.held at.within is was in
    let change = ap (λ (s : Kept). s.held) c.set_uses.ensures ∙ ap with_uses (c.uses-uses.ensures ∙ ap (λ s. s.uses) same) in
    ap stock (seen-set stores place new ∙ changed-is (seen stores) c.self.inside.made c.self.inside.total c.args.store place less old.held new.held c.self.invariant.sound at was change)
    ∙ ap (with_change c.args.store less) c.self.view_is
    ∙ sym (let_go-other c.args.self.now c.args.store c.index.result.now.held found (omega (arith, c.uses-uses.ensures)))

pub returns-in_default-clause-live : goal.returns-in_default-clause-live
returns-in_default-clause-live g c =
    not-live c.args.self.now c.args.store
    (not-there (seen c.deref.result.now) (seen c.self.inside.held.items) c.self.inside.made c.args.self.now c.args.store (ap seen c.deref.ensures.value) c.self.view_is c.in_default.ensures.absent)
