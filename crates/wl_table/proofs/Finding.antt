-- The least id of an object that is looked for.
use Rattle.std.proofs.Common.{◌≡◌, ℕ, zero, suc, ◌+◌, ◌<◌, ◌≤◌, ◌⊎◌, inl, inr, Bool, true, false, cond, Option, Some, None, List, [], ◌∷◌, ◌++◌, length, get_or, refl, subst, sym, ◌∙◌, ap, arith}
use Rattle.std.proofs.lemmas.Bool.{cases_lt}
use Rattle.std.proofs.lemmas.Bool.Decides.{nat_tests}
use Rattle.std.proofs.lemmas.Map.Keys.{sorted_head, sorted_tail}
use Rattle.std.specs.declared.cmp.Ordering.TheVariants.{Less}
use Rattle.std.specs.Ordering.{nat_cmp, is_eq}
use Rattle.std.specs.List.{AllByRecursion}
use Rattle.std.specs.List.Sorted.{IsStrictlySortedBy}
use Rattle.std.specs.BTreeMap.{BTreeMap}
use Rattle.std.specs.Map.{keys_of}
use Rattle.wl_proto.specs.declared.interface.Interface.{Interface}
use Rattle.wl_table.specs.declared.entry.Entry.{Entry}
use Rattle.wl_table.specs.Objects.{Held, entry_of, StandsFor}
use Rattle.wl_table.specs.Places.{placed, IsTable}
use Rattle.wl_table.proofs.Places.{beside, in_row}

-- none of these is looked for
abbrev pub AreOthers : Interface → ℕ → Held → Type 0
AreOthers interface target [] = Unit {0}
AreOthers interface target (p ∷ ps) = (StandsFor (Some p.1) interface target → ⊥) × AreOthers interface target ps

pub others-push : (interface : Interface) (target : ℕ) (ps : Held) (p : ℕ × Entry) → AreOthers interface target ps → (StandsFor (Some p.1) interface target → ⊥)
    → AreOthers interface target (ps ++ p ∷ [])
others-push interface target [] p h last = (last, tt)
others-push interface target (q ∷ qs) p h last = (h.0, others-push interface target qs p h.1 last)

neither : (b : Bool) (x : Entry) (o : Option Entry) (interface : Interface) (target : ℕ) → (StandsFor (Some x) interface target → ⊥) → (StandsFor o interface target → ⊥)
    → StandsFor (cond b (Some x) o) interface target → ⊥
neither true x o interface target first second stands = first stands
neither false x o interface target first second stands = second stands

-- so it is under no id of theirs
pub others-held : (interface : Interface) (target : ℕ) (ps : Held) (id : ℕ) → AreOthers interface target ps → StandsFor (entry_of ps id) interface target → ⊥
others-held interface target [] id h stands = stands
others-held interface target (p ∷ ps) id h stands = neither (is_eq (nat_cmp id p.0)) p.1 (entry_of ps id) interface target h.0 (others-held interface target ps id h.1) stands

itself : (id : ℕ) → is_eq (nat_cmp id id) ≡ true
itself id = grind (arith, nat_tests)

above : (least id : ℕ) → nat_cmp least id ≡ Less → is_eq (nat_cmp id least) ≡ false
above least id h = grind (arith, nat_tests)

below : (id least : ℕ) → id < least → is_eq (nat_cmp id least) ≡ false
below id least h = grind (arith, nat_tests)

under : (id least other : ℕ) → id < least → nat_cmp least other ≡ Less → id < other
under id least other h less = grind (arith, nat_tests)

-- the ids of these are above one that is greater
none-under : (ps : Held) (least id : ℕ) → AllByRecursion (λ other. nat_cmp least other ≡ Less) (keys_of ps) → id < least → entry_of ps id ≡ None
none-under [] least id h lt = refl
none-under (p ∷ ps) least id h lt = rw (below id p.0 (under id least p.0 lt h.0)) (none-under ps least id h.1 lt)

at_the_key : (qs rest : Held) (p : ℕ × Entry) (P : ℕ → Type 0) → AllByRecursion P (keys_of (qs ++ p ∷ rest)) → P p.0
at_the_key [] rest p P h = h.0
at_the_key (q ∷ qs) rest p P h = at_the_key qs rest p P h.1

-- in a list whose ids rise, what comes after others is held under its id
pub held-there : (before rest : Held) (p : ℕ × Entry) → IsStrictlySortedBy nat_cmp (keys_of (before ++ p ∷ rest)) → entry_of (before ++ p ∷ rest) p.0 ≡ Some p.1
held-there [] rest p rise = rw (itself p.0) refl
held-there (q ∷ qs) rest p rise =
    rw (above q.0 p.0 (at_the_key qs rest p (λ other. nat_cmp q.0 other ≡ Less) (sorted_head nat_cmp q.0 (keys_of (qs ++ p ∷ rest)) rise)))
    (held-there qs rest p (sorted_tail nat_cmp q.0 (keys_of (qs ++ p ∷ rest)) rise))

-- and no lesser id is one that is looked for, where those before it aren't
pub first-found : (interface : Interface) (target : ℕ) (before rest : Held) (p : ℕ × Entry) (id : ℕ) → IsStrictlySortedBy nat_cmp (keys_of (before ++ p ∷ rest))
    → AreOthers interface target before → id < p.0
    → StandsFor (entry_of (before ++ p ∷ rest) id) interface target → ⊥
first-found interface target [] rest p id rise h lt stands =
    let none : entry_of (p ∷ rest) id ≡ None = rw (below id p.0 lt) (none-under rest p.0 id (sorted_head nat_cmp p.0 (keys_of rest) rise) lt) in
    subst (λ (o : Option Entry). StandsFor o interface target) none stands
first-found interface target (q ∷ qs) rest p id rise h lt stands =
    neither (is_eq (nat_cmp id q.0)) q.1 (entry_of (qs ++ p ∷ rest) id) interface target h.0
    (first-found interface target qs rest p id (sorted_tail nat_cmp q.0 (keys_of (qs ++ p ∷ rest)) rise) h.1 lt) stands

-- ---- a table

-- what isn't at the first places isn't under the first ids
pub none-placed : (row : List (Option Entry)) (others : BTreeMap ℕ Entry) (held : Held) (count n : ℕ) (interface : Interface) (target : ℕ) → placed 1 row ++ others.entries ≡ held
    → IsTable row others count
    → n ≤ length row → ((k : ℕ) → k < n → StandsFor (get_or row k None) interface target → ⊥) → (id : ℕ) → id ≤ n → StandsFor (entry_of held id) interface target → ⊥
none-placed row others held count n interface target is table within none id most stands =
    at id most (subst (λ (u : Held). StandsFor (entry_of u id) interface target) (sym is) stands)
  where
    at : (id : ℕ) → id ≤ n → StandsFor (entry_of (placed 1 row ++ others.entries) id) interface target → ⊥
    at zero most stands =
        let e : entry_of (placed 1 row ++ others.entries) 0 ≡ None = beside row others.entries 0 (inl refl) ∙ table.apart 0 (omega arith) in
        subst (λ (o : Option Entry). StandsFor o interface target) e stands
    at (suc k) most stands =
        let e = in_row row others count (suc k) k table (omega arith) (omega arith) in
        none k (omega arith) (subst (λ (o : Option Entry). StandsFor o interface target) e stands)

-- nor is it under the ids that could have places
pub none-placeable : (row : List (Option Entry)) (others : BTreeMap ℕ Entry) (held : Held) (count : ℕ) (interface : Interface) (target : ℕ) → placed 1 row ++ others.entries ≡ held
    → IsTable row others count
    → ((k : ℕ) → k < length row → StandsFor (get_or row k None) interface target → ⊥) → (id : ℕ) → id ≤ 8192 → StandsFor (entry_of held id) interface target → ⊥
none-placeable row others held count interface target is table none id most stands = at (cases_lt (length row) id)
  where
    at : (length row < id) ⊎ (id ≤ length row) → ⊥
    at (inl far) =
        let e : entry_of held id ≡ None = ap (λ (u : Held). entry_of u id) (sym is) ∙ beside row others.entries id (inr far) ∙ table.apart id most in
        subst (λ (o : Option Entry). StandsFor o interface target) e stands
    at (inr near) = none-placed row others held count (length row) interface target is table (omega arith) none id near stands

-- the one at a place, after others
pub found-placed : (row : List (Option Entry)) (others : BTreeMap ℕ Entry) (held : Held) (count k : ℕ) (interface : Interface) (target : ℕ) → placed 1 row ++ others.entries ≡ held
    → IsTable row others count
    → k < length row → StandsFor (get_or row k None) interface target → StandsFor (entry_of held (k + 1)) interface target
found-placed row others held count k interface target is table within stands =
    let e : entry_of held (k + 1) ≡ get_or row k None = ap (λ (u : Held). entry_of u (k + 1)) (sym is) ∙ in_row row others count (k + 1) k table refl within in
    subst (λ (o : Option Entry). StandsFor o interface target) (sym e) stands

-- an id that could have no place
far_from : (row : List (Option Entry)) (others : BTreeMap ℕ Entry) (held : Held) (count id : ℕ) → placed 1 row ++ others.entries ≡ held → IsTable row others count → 8192 < id
    → entry_of held id ≡ entry_of others.entries id
far_from row others held count id is table far = ap (λ (u : Held). entry_of u id) (sym is) ∙ beside row others.entries id (inr (omega (arith, table.short)))

-- it is nowhere
pub none-held : (row : List (Option Entry)) (others : BTreeMap ℕ Entry) (held : Held) (count : ℕ) (interface : Interface) (target : ℕ) → placed 1 row ++ others.entries ≡ held
    → IsTable row others count
    → ((id : ℕ) → id ≤ 8192 → StandsFor (entry_of held id) interface target → ⊥) → AreOthers interface target others.entries → (id : ℕ) → StandsFor (entry_of held id) interface target → ⊥
none-held row others held count interface target is table near all id stands = at (cases_lt 8192 id)
  where
    at : (8192 < id) ⊎ (id ≤ 8192) → ⊥
    at (inl far) = others-held interface target others.entries id all (subst (λ (o : Option Entry). StandsFor o interface target) (far_from row others held count id is table far) stands)
    at (inr most) = near id most stands

-- it is the first of the others, after some that aren't
pub found-beside : (row : List (Option Entry)) (others : BTreeMap ℕ Entry) (held : Held) (count : ℕ) (interface : Interface) (target : ℕ) (before rest : Held) (p : ℕ × Entry)
    → placed 1 row ++ others.entries ≡ held
    → IsTable row others count → others.entries ≡ before ++ p ∷ rest → IsStrictlySortedBy nat_cmp (keys_of others.entries) → ((id : ℕ) → id ≤ 8192 → StandsFor (entry_of held id) interface target → ⊥)
    → AreOthers interface target before → StandsFor (Some p.1) interface target
    → StandsFor (entry_of held p.0) interface target × ((id : ℕ) → id < p.0 → StandsFor (entry_of held id) interface target → ⊥)
found-beside row others held count interface target before rest p is table parts rise near passed stands =
    let sorted = subst (λ (u : Held). IsStrictlySortedBy nat_cmp (keys_of u)) parts rise in
    let there : entry_of others.entries p.0 ≡ Some p.1 = ap (λ (u : Held). entry_of u p.0) parts ∙ held-there before rest p sorted in
    let far = beyond_places (cases_lt 8192 p.0) there in (
      subst (λ (o : Option Entry). StandsFor o interface target) (sym (far_from row others held count p.0 is table far ∙ there)) stands,
      λ id lt found. least sorted id lt found (cases_lt 8192 id),
    )
  where
    beyond_places : (8192 < p.0) ⊎ (p.0 ≤ 8192) → entry_of others.entries p.0 ≡ Some p.1 → 8192 < p.0
    beyond_places (inl far) there = far
    beyond_places (inr most) there = let e : None ≡ Some p.1 = sym (table.apart p.0 most) ∙ there in absurd (cc)

    least : IsStrictlySortedBy nat_cmp (keys_of (before ++ p ∷ rest)) → (id : ℕ) → id < p.0 → StandsFor (entry_of held id) interface target → (8192 < id) ⊎ (id ≤ 8192) → ⊥
    least sorted id lt found (inr most) = near id most found
    least sorted id lt found (inl far) =
        let e = far_from row others held count id is table far ∙ ap (λ (u : Held). entry_of u id) parts in
        first-found interface target before rest p id sorted passed lt (subst (λ (o : Option Entry). StandsFor o interface target) e found)
