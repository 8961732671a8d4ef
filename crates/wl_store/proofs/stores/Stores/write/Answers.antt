use Rattle.wl_store.proofs.stores.Stores.write.Goals.{then-at-size-via-then-at-size, then-at-size-via-else-at-size+then-size-at}
use Rattle.std.proofs.Common.{◌≡◌, ◌≤◌, ◌+◌, ◌++◌, List, length, take, drop, set, false, ap, subst, sym, ◌∙◌, arith, ◌<◌, refl}
use Rattle.std.proofs.lemmas.List.{length-map}
use Rattle.wl_store.specs.Kept.{IsKept, Kept, seen}
use Rattle.wl_store.specs.Stores.{Held, IsPlace, IsSound, Stock, written}
use Rattle.wl_store.proofs.Kept.{kept-set, left-is, left-read, lends-none, seen-left_read, seen-read, seen-set}
use Rattle.wl_store.proofs.Places.{reads-same}
use Rattle.wl_store.proofs.Refusals.{store-read, write-accepted, write-refused}
use Rattle.wl_store.proofs.Sound.{changed-is, length-written, sound-same}
use Rattle.wl_store.proofs.stores.Stores.write.Goals as goal

pub returns-clause-refused : goal.returns-clause-refused
returns-clause-refused g c =
    let stores = c.self.inside.held.items in
    let place = c.in-Some.place in
    let at = subst (λ h. IsPlace (seen h) c.args.store place) c.deref.ensures.value c.in-Some.ensures.found in
    let is = seen-read stores place c.index.result.now at.within c.index.ensures in
    let found = store-read (seen stores) c.self.inside.made c.args.self.now c.args.store place c.index.result.now.held c.self.view_is at is in
    rw (write-accepted c.args.self.now c.args.store c.args.at (length c.args.bytes.now) c.index.result.now.held found (omega arith)) tt

pub returns-then-at-size-clause-refused : goal.returns-then-at-size-clause-refused
returns-then-at-size-clause-refused g c =
    let stores = c.self.inside.held.items in
    let place = c.in-Some.place in
    let at = subst (λ h. IsPlace (seen h) c.args.store place) c.deref.ensures.value c.in-Some.ensures.found in
    let is = seen-read stores place c.index.result.now at.within c.index.ensures in
    let found = store-read (seen stores) c.self.inside.made c.args.self.now c.args.store place c.index.result.now.held c.self.view_is at is in
    let past : length c.index.result.now.held.bytes < c.args.at + length c.args.bytes.now =
    elim c.then-at-size.branch [ then-at-size-via-then-at-size w ↦ omega arith | then-at-size-via-else-at-size+then-size-at w ↦ omega arith ] in
    rw (write-refused c.args.self.now c.args.store c.args.at (length c.args.bytes.now) c.index.result.now.held found past) refl

pub returns-then-at-size-clause-accepted : goal.returns-then-at-size-clause-accepted
returns-then-at-size-clause-accepted g c =
    let stores = c.self.inside.held.items in
    let place = c.in-Some.place in
    let at = subst (λ h. IsPlace (seen h) c.args.store place) c.deref.ensures.value c.in-Some.ensures.found in
    let is = seen-read stores place c.index.result.now at.within c.index.ensures in
    let found = store-read (seen stores) c.self.inside.made c.args.self.now c.args.store place c.index.result.now.held c.self.view_is at is in
    let past : length c.index.result.now.held.bytes < c.args.at + length c.args.bytes.now =
    elim c.then-at-size.branch [ then-at-size-via-then-at-size w ↦ omega arith | then-at-size-via-else-at-size+then-size-at w ↦ omega arith ] in
    rw (write-refused c.args.self.now c.args.store c.args.at (length c.args.bytes.now) c.index.result.now.held found past) tt

pub invariant_of-self : goal.invariant_of-self
invariant_of-self g c =
    let stores = c.self.inside.held.items in
    let place = c.in-Some.place in
    let at = subst (λ h. IsPlace (seen h) c.args.store place) c.deref.ensures.value c.in-Some.ensures.found in
    let now = c.fill_at.new.held in
    let same = c.fill_at.ensures.seen ∙ ap seen c.deref_mut.ensures.value in
    let old = c.index_mut.result.now in
    let read = left-read stores now c.self.inside.held.len place old c.self.inside.held.ok.0 same c.index_mut.ensures.value in
    let was = seen-left_read stores now place old same at.within read in
    let new = c.write.new.self in
    let left = left-is stores now (seen stores) c.self.inside.held.len c.self.inside.held.ok.0 same (length-map stores (λ (s : Kept). s.held)) in
    let is = seen-read stores place c.index.result.now at.within c.index.ensures in
    let room : c.args.at + length c.args.bytes.now ≤ length old.held.bytes = omega (arith, ap (λ s. length s.bytes) (reads-same (seen stores) place c.index.result.now.held old.held at.within is was)) in
    let number : new.held.number ≡ old.held.number = ap (λ (s : Kept). s.held.number) c.write.ensures in
    let size : length new.held.bytes ≡ length old.held.bytes =
    ap (λ (s : Kept). length s.held.bytes) c.write.ensures ∙ length-written old.held.bytes c.args.bytes.now c.args.at room in
    let sound = sound-same (seen stores) c.self.inside.made c.self.inside.total c.args.store place old.held new.held c.self.invariant.sound at was number size in
    let blank : new.blank ≡ false = ap (λ (s : Kept). s.blank) c.write.ensures ∙ ap (λ (s : Kept). s.blank) read ∙ c.fill_at.ensures.filled old in
    let kept = kept-set now c.self.inside.made c.self.inside.total c.fill_at.new.zeros place new
    (subst (λ (h : List Held). IsSound (set h place new.held) c.self.inside.made c.self.inside.total) (sym same) sound)
    (lends-none c.fill_at.new.zeros place now new c.fill_at.ensures.lends blank) in
    subst (λ (h : List Kept). IsKept (set h place new) c.self.inside.made c.self.inside.total c.fill_at.new.zeros) (sym left) kept

pub returns-clause-ok : goal.returns-clause-ok
returns-clause-ok g c =
    let stock : List Held → Stock = λ held. record { held = held; made = c.self.inside.made } in
    let stores = c.self.inside.held.items in
    let place = c.in-Some.place in
    let at = subst (λ h. IsPlace (seen h) c.args.store place) c.deref.ensures.value c.in-Some.ensures.found in
    let now = c.fill_at.new.held in
    let same = c.fill_at.ensures.seen ∙ ap seen c.deref_mut.ensures.value in
    let old = c.index_mut.result.now in
    let read = left-read stores now c.self.inside.held.len place old c.self.inside.held.ok.0 same c.index_mut.ensures.value in
    let was = seen-left_read stores now place old same at.within read in
    let new = c.write.new.self in
    let left = left-is stores now (seen stores) c.self.inside.held.len c.self.inside.held.ok.0 same (length-map stores (λ (s : Kept). s.held)) in
    let change : Held → Held = λ s. record s { bytes = take c.args.at s.bytes ++ c.args.bytes.now ++ drop (c.args.at + length c.args.bytes.now) s.bytes } in
    ap stock (ap (λ (h : List Kept). seen (set h place new)) left ∙ seen-set now place new ∙ ap (λ (h : List Held). set h place new.held) same
    ∙ changed-is (seen stores) c.self.inside.made c.self.inside.total c.args.store place change old.held new.held c.self.invariant.sound at was (ap (λ (s : Kept). s.held) c.write.ensures))
    ∙ ap (written c.args.store c.args.at c.args.bytes.now) c.self.view_is

pub write-requires-clause-within : goal.write-requires-clause-within
write-requires-clause-within g c =
    let stores = c.self.inside.held.items in
    let place = c.in-Some.place in
    let at = subst (λ h. IsPlace (seen h) c.args.store place) c.deref.ensures.value c.in-Some.ensures.found in
    let now = c.fill_at.new.held in
    let same = c.fill_at.ensures.seen ∙ ap seen c.deref_mut.ensures.value in
    let old = c.index_mut.result.now in
    let read = left-read stores now c.self.inside.held.len place old c.self.inside.held.ok.0 same c.index_mut.ensures.value in
    let was = seen-left_read stores now place old same at.within read in
    let is = seen-read stores place c.index.result.now at.within c.index.ensures in
    omega (arith, ap (λ s. length s.bytes) (reads-same (seen stores) place c.index.result.now.held old.held at.within is was))

pub write-requires-clause-filled : goal.write-requires-clause-filled
write-requires-clause-filled g c =
    let stores = c.self.inside.held.items in
    let place = c.in-Some.place in
    let now = c.fill_at.new.held in
    let same = c.fill_at.ensures.seen ∙ ap seen c.deref_mut.ensures.value in
    let old = c.index_mut.result.now in
    let read = left-read stores now c.self.inside.held.len place old c.self.inside.held.ok.0 same c.index_mut.ensures.value in
    ap (λ (s : Kept). s.blank) read ∙ c.fill_at.ensures.filled old
