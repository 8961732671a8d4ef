use Rattle.std.proofs.Common.{◌≡◌, ◌≤◌, ◌<◌, ◌+◌, ◌-◌, List, length, get_or, set, ap, refl, subst, sym, ◌∙◌, arith, w32}
use Rattle.std.specs.Prelude.{unsigned_abs}
use Rattle.std.proofs.lemmas.Int.{to_z-of_z}
use Rattle.std.proofs.lemmas.List.{get_or_read, length-map, length-set}
use Rattle.wl_store.specs.Kept.{Kept, Lends, grown, seen}
use Rattle.wl_store.specs.Stores.{Held, IsPlace, Stock, resized}
use Rattle.wl_store.proofs.Kept.{kept-left, seen-left, seen-read, within-seen}
use Rattle.wl_store.proofs.Refusals.{not-there, resize-refused}
use Rattle.wl_store.proofs.Sound.{changed-is, size-in_total, sound-grown}
use Rattle.wl_store.proofs.stores.Stores.resize.Goals as goal

pub returns-in-Some-size_refusal-clause-refused : goal.returns-in-Some-size_refusal-clause-refused
returns-in-Some-size_refusal-clause-refused g c =
    let stores = c.self.inside.held.items in
    let place = c.in-Some.place in
    let at = subst (λ h. IsPlace (seen h) c.args.store place) c.deref.ensures.value c.in-Some.ensures.found in
    let is = seen-read stores place c.index.result.now at.within c.index.ensures in
    let refused = resize-refused (seen stores) c.self.inside.made c.self.inside.total c.args.self.now c.args.store place c.args.size c.index.result.now.held c.self.view_is c.self.invariant.sound at is in
    let first = simp (to_z-of_z w32 c.args.size c.ranges.size, c.size-present.ensures.value) at c.in-Some-size_refusal.ensures.first in
    rw (refused, ← first)

pub returns-in-Some-size_refusal-clause-accepted : goal.returns-in-Some-size_refusal-clause-accepted
returns-in-Some-size_refusal-clause-accepted g c =
    let stores = c.self.inside.held.items in
    let place = c.in-Some.place in
    let at = subst (λ h. IsPlace (seen h) c.args.store place) c.deref.ensures.value c.in-Some.ensures.found in
    let is = seen-read stores place c.index.result.now at.within c.index.ensures in
    let refused = resize-refused (seen stores) c.self.inside.made c.self.inside.total c.args.self.now c.args.store place c.args.size c.index.result.now.held c.self.view_is c.self.invariant.sound at is in
    let first = simp (to_z-of_z w32 c.args.size c.ranges.size, c.size-present.ensures.value) at c.in-Some-size_refusal.ensures.first in
    rw (refused, ← first) tt

pub returns-in-Ok-clause-refused : goal.returns-in-Ok-clause-refused
returns-in-Ok-clause-refused g c =
    let stores = c.self.inside.held.items in
    let place = c.in-Some.place in
    let at = subst (λ h. IsPlace (seen h) c.args.store place) c.deref.ensures.value c.in-Some.ensures.found in
    let is = seen-read stores place c.index.result.now at.within c.index.ensures in
    let refused = resize-refused (seen stores) c.self.inside.made c.self.inside.total c.args.self.now c.args.store place c.args.size c.index.result.now.held c.self.view_is c.self.invariant.sound at is in
    let first = simp (to_z-of_z w32 c.args.size c.ranges.size, c.size-present.ensures.value) at c.in_default-size_refusal.ensures.first in
    rw (refused, ← first) tt

pub returns-in-Err-clause-refused : goal.returns-in-Err-clause-refused
returns-in-Err-clause-refused g c =
    let stores = c.self.inside.held.items in
    let place = c.in-Some.place in
    let at = subst (λ h. IsPlace (seen h) c.args.store place) c.deref.ensures.value c.in-Some.ensures.found in
    let is = seen-read stores place c.index.result.now at.within c.index.ensures in
    let refused = resize-refused (seen stores) c.self.inside.made c.self.inside.total c.args.self.now c.args.store place c.args.size c.index.result.now.held c.self.view_is c.self.invariant.sound at is in
    let first = simp (to_z-of_z w32 c.args.size c.ranges.size, c.size-present.ensures.value) at c.in_default-size_refusal.ensures.first in
    rw (refused, ← first) tt

pub returns-in-Err-clause-accepted : goal.returns-in-Err-clause-accepted
returns-in-Err-clause-accepted g c =
    let stores = c.self.inside.held.items in
    let place = c.in-Some.place in
    let at = subst (λ h. IsPlace (seen h) c.args.store place) c.deref.ensures.value c.in-Some.ensures.found in
    let is = seen-read stores place c.index.result.now at.within c.index.ensures in
    let refused = resize-refused (seen stores) c.self.inside.made c.self.inside.total c.args.self.now c.args.store place c.args.size c.index.result.now.held c.self.view_is c.self.invariant.sound at is in
    let first = simp (to_z-of_z w32 c.args.size c.ranges.size, c.size-present.ensures.value) at c.in_default-size_refusal.ensures.first in
    rw (refused, ← first) refl

pub returns-in_default-clause-refused : goal.returns-in_default-clause-refused
returns-in_default-clause-refused g c =
    rw (not-there (seen c.deref.result.now) (seen c.self.inside.held.items) c.self.inside.made c.args.self.now c.args.store (ap seen c.deref.ensures.value) c.self.view_is c.in_default.ensures.absent) refl

pub returns-in_default-clause-accepted : goal.returns-in_default-clause-accepted
returns-in_default-clause-accepted g c =
    rw (not-there (seen c.deref.result.now) (seen c.self.inside.held.items) c.self.inside.made c.args.self.now c.args.store (ap seen c.deref.ensures.value) c.self.view_is c.in_default.ensures.absent) tt

pub overflow_sub-self : goal.overflow_sub-self
overflow_sub-self g c =
    let stores = c.self.inside.held.items in
    let place = c.in-Some.place in
    let at = subst (λ h. IsPlace (seen h) c.args.store place) c.deref.ensures.value c.in-Some.ensures.found in
    let is = seen-read stores place c.index.result.now at.within c.index.ensures in
    omega (arith, size-in_total (seen stores) c.self.inside.made c.self.inside.total place c.index.result.now.held c.self.invariant.sound at.within, ap (λ (s : Held). length s.bytes) is)

pub overflow_add-self : goal.overflow_add-self
overflow_add-self g c =
    let stores = c.self.inside.held.items in
    let place = c.in-Some.place in
    let at = subst (λ h. IsPlace (seen h) c.args.store place) c.deref.ensures.value c.in-Some.ensures.found in
    let is = seen-read stores place c.index.result.now at.within c.index.ensures in
    let fits = to_z-of_z w32 c.args.size c.ranges.size in
    let sized = simp fits at c.unsigned_abs-size.ensures.value in
    let room = simp fits at c.in_default-size_refusal.ensures.room in
    let within = size-in_total (seen stores) c.self.inside.made c.self.inside.total place c.index.result.now.held c.self.invariant.sound at.within in
    omega (arith, sized, room, within, ap (λ (s : Held). length s.bytes) is)

pub grow_at-requires : goal.grow_at-requires
grow_at-requires g c =
    let stores = c.self.inside.held.items in
    let place = c.in-Some.place in
    let at = subst (λ h. IsPlace (seen h) c.args.store place) c.deref.ensures.value c.in-Some.ensures.found in
    let fits = to_z-of_z w32 c.args.size c.ranges.size in
    let sized = simp fits at c.unsigned_abs-size.ensures.value in
    let grows = simp fits at c.in_default-size_refusal.ensures.grows in
    let old = c.index.result.now in
    let within = within-seen stores place at.within in
    let reads : (d : Kept) → length (get_or stores place d).held.bytes ≤ c.unsigned_abs-size.result =
    λ d. omega (arith, sized, grows, c.size-present.ensures.value, ap (λ (k : Kept). length k.held.bytes) (get_or_read stores place old within c.index.ensures d)) in
    record {
      within = subst (λ (ks : List Kept). place < length ks) (sym c.deref_mut.ensures.value) within;
      grows = subst (λ (ks : List Kept). (d : Kept) → length (get_or ks place d).held.bytes ≤ c.unsigned_abs-size.result) (sym c.deref_mut.ensures.value) reads;
      lends = subst (Lends c.self.inside.zeros) (sym c.deref_mut.ensures.value) c.self.invariant.lends;
    }

pub invariant_of-self : goal.invariant_of-self
invariant_of-self g c =
    let stores = c.self.inside.held.items in
    let place = c.in-Some.place in
    let at = subst (λ h. IsPlace (seen h) c.args.store place) c.deref.ensures.value c.in-Some.ensures.found in
    let is = seen-read stores place c.index.result.now at.within c.index.ensures in
    let fits = to_z-of_z w32 c.args.size c.ranges.size in
    let sized = simp fits at c.unsigned_abs-size.ensures.value in
    let grows = simp fits at c.in_default-size_refusal.ensures.grows in
    let room = simp fits at c.in_default-size_refusal.ensures.room in
    let now = c.grow_at.new.held in
    let old = c.index.result.now in
    let grows_to : List Kept → Type 0 = λ ks. seen now ≡ set (seen ks) place (grown c.unsigned_abs-size.result (get_or ks place old).held) in
    let grew : seen now ≡ set (seen stores) place (grown c.unsigned_abs-size.result old.held) =
    subst grows_to c.deref_mut.ensures.value (c.in-Ok.ensures.ok old) ∙ ap (λ (k : Kept). set (seen stores) place (grown c.unsigned_abs-size.result k.held)) (sym c.index.ensures) in
    let same : length (set (seen stores) place (grown c.unsigned_abs-size.result old.held)) ≡ length stores =
    length-set (seen stores) place (grown c.unsigned_abs-size.result old.held) ∙ length-map stores (λ (k : Kept). k.held) in
    let sound = sound-grown (seen stores) c.self.inside.made c.self.inside.total c.size-present.result c.unsigned_abs-size.result c.args.store place old.held (grown c.unsigned_abs-size.result old.held)
    c.self.invariant.sound at is c.size-present.ensures.value (omega (arith, sized, grows)) (omega (arith, sized, room)) refl in
    kept-left stores now (set (seen stores) place (grown c.unsigned_abs-size.result old.held)) c.self.inside.made (c.self.inside.total - c.size-present.result + c.unsigned_abs-size.result) c.grow_at.new.zeros
    c.self.inside.held.len c.self.inside.held.ok.0 grew same sound c.in-Ok.ensures.lends

pub returns-in-Ok-clause-ok : goal.returns-in-Ok-clause-ok
returns-in-Ok-clause-ok g c =
    let stock : List Held → Stock = λ held. record { held = held; made = c.self.inside.made } in
    let stores = c.self.inside.held.items in
    let place = c.in-Some.place in
    let at = subst (λ h. IsPlace (seen h) c.args.store place) c.deref.ensures.value c.in-Some.ensures.found in
    let is = seen-read stores place c.index.result.now at.within c.index.ensures in
    let fits = to_z-of_z w32 c.args.size c.ranges.size in
    let sized = simp fits at c.unsigned_abs-size.ensures.value in
    let now = c.grow_at.new.held in
    let old = c.index.result.now in
    let grows_to : List Kept → Type 0 = λ ks. seen now ≡ set (seen ks) place (grown c.unsigned_abs-size.result (get_or ks place old).held) in
    let grew : seen now ≡ set (seen stores) place (grown c.unsigned_abs-size.result old.held) =
    subst grows_to c.deref_mut.ensures.value (c.in-Ok.ensures.ok old) ∙ ap (λ (k : Kept). set (seen stores) place (grown c.unsigned_abs-size.result k.held)) (sym c.index.ensures) in
    let same : length (set (seen stores) place (grown c.unsigned_abs-size.result old.held)) ≡ length stores =
    length-set (seen stores) place (grown c.unsigned_abs-size.result old.held) ∙ length-map stores (λ (k : Kept). k.held) in
    ap stock (seen-left stores now (set (seen stores) place (grown c.unsigned_abs-size.result old.held)) c.self.inside.held.len c.self.inside.held.ok.0 grew same
    ∙ changed-is (seen stores) c.self.inside.made c.self.inside.total c.args.store place (grown (unsigned_abs c.args.size)) old.held (grown c.unsigned_abs-size.result old.held) c.self.invariant.sound at is
    (ap (λ n. grown n old.held) sized))
    ∙ ap (resized c.args.store (unsigned_abs c.args.size)) c.self.view_is

pub invariant_of-self-in-Err : goal.invariant_of-self-in-Err
invariant_of-self-in-Err g c =
    let stores = c.self.inside.held.items in
    kept-left stores c.grow_at.new.held (seen stores) c.self.inside.made c.self.inside.total c.grow_at.new.zeros c.self.inside.held.len c.self.inside.held.ok.0
    (c.in-Err.ensures.err ∙ ap seen c.deref_mut.ensures.value) (length-map stores (λ (k : Kept). k.held)) c.self.invariant.sound c.in-Err.ensures.lends

pub returns-in-Err-clause-err : goal.returns-in-Err-clause-err
returns-in-Err-clause-err g c =
    let stock : List Held → Stock = λ held. record { held = held; made = c.self.inside.made } in
    let stores = c.self.inside.held.items in
    ap stock (seen-left stores c.grow_at.new.held (seen stores) c.self.inside.held.len c.self.inside.held.ok.0 (c.in-Err.ensures.err ∙ ap seen c.deref_mut.ensures.value) (length-map stores (λ (k : Kept). k.held)))
    ∙ c.self.view_is
