-- What stands in a row, and what beside it.
use Rattle.std.proofs.Common.{◌≡◌, ◌≢◌, ℕ, zero, suc, ◌+◌, ◌-◌, ◌<◌, ◌≤◌, ◌⊎◌, inl, inr, ⊎_elim, Bool, true, false, cond, is_some, Option, Some, None, IsSome, List, [], ◌∷◌, ◌++◌, length, get_or}
use Rattle.std.proofs.Common.{replicate, refl, subst, sym, ◌∙◌, ap, arith, length-append}
use Rattle.std.proofs.Math.ListN.{set}
use Rattle.std.proofs.lemmas.List.{get_or-set_same, get_or-set_other, get_or_past, length-set, length-replicate}
use Rattle.std.proofs.lemmas.Bool.Decides.{nat_tests}
use Rattle.std.specs.Ordering.{nat_cmp, is_eq}
use Rattle.std.specs.BTreeMap.{BTreeMap, UpdatesBy}
use Rattle.wl_table.specs.declared.entry.Entry.{Entry}
use Rattle.wl_table.specs.Objects.{Held, entry_of, HoldsAt}
use Rattle.wl_table.specs.Places.{placed, IsTable}
use Rattle.wl_table.proofs.Ids.{HoldsAt-updates}

abbrev pub either : Option Entry → Option Entry → Option Entry
either None other = other
either (Some entry) other = Some entry

either_way : (b : Bool) (x : Entry) (both first second : Option Entry) → both ≡ either first second → cond b (Some x) both ≡ either (cond b (Some x) first) second
either_way true x both first second e = refl
either_way false x both first second e = e

pub entry_of-append : (xs ys : Held) (id : ℕ) → entry_of (xs ++ ys) id ≡ either (entry_of xs id) (entry_of ys id)
entry_of-append [] ys id = refl
entry_of-append (x ∷ xs) ys id = either_way (is_eq (nat_cmp id x.0)) x.1 (entry_of (xs ++ ys) id) (entry_of xs id) (entry_of ys id) (entry_of-append xs ys id)

same : (a b : ℕ) → a ≡ b → is_eq (nat_cmp a b) ≡ true
same a b e = grind (arith, nat_tests)

apart_by : (a b : ℕ) → a < b → is_eq (nat_cmp a b) ≡ false
apart_by a b h = grind (arith, nat_tests)

apart_above : (a b : ℕ) → b < a → is_eq (nat_cmp a b) ≡ false
apart_above a b h = grind (arith, nat_tests)

placed_below : (first id : ℕ) (places : List (Option Entry)) → id < first → entry_of (placed first places) id ≡ None
placed_below first id [] h = refl
placed_below first id (None ∷ places) h = placed_below (suc first) id places (omega arith)
placed_below first id (Some entry ∷ places) h = rw (apart_by id first h) (placed_below (suc first) id places (omega arith))

placed_at : (first id k : ℕ) (places : List (Option Entry)) → id ≡ first + k → entry_of (placed first places) id ≡ get_or places k None
placed_at first id k [] e = refl
placed_at first id zero (None ∷ places) e = placed_below (suc first) id places (omega arith)
placed_at first id zero (Some entry ∷ places) e = rw (same id first (omega arith)) refl
placed_at first id (suc k) (None ∷ places) e = placed_at (suc first) id k places (omega arith)
placed_at first id (suc k) (Some entry ∷ places) e = rw (apart_above id first (omega arith)) (placed_at (suc first) id k places (omega arith))

-- the entry of an id with a place, or without one
pub entry_at : (row : List (Option Entry)) (others : Held) (id k : ℕ) → id ≡ k + 1 → entry_of (placed 1 row ++ others) id ≡ either (get_or row k None) (entry_of others id)
entry_at row others id k e = entry_of-append (placed 1 row) others id ∙ ap (λ (u : Option Entry). either u (entry_of others id)) (placed_at 1 id k row (omega arith))

entry_of_0 : (row : List (Option Entry)) (others : Held) (id : ℕ) → id ≡ 0 → entry_of (placed 1 row ++ others) id ≡ entry_of others id
entry_of_0 row others id e = entry_of-append (placed 1 row) others id ∙ ap (λ (u : Option Entry). either u (entry_of others id)) (placed_below 1 id row (omega arith))

alone : (o other : Option Entry) → other ≡ None → either o other ≡ o
alone None other e = e
alone (Some x) other e = refl

pub in_row : (row : List (Option Entry)) (others : BTreeMap ℕ Entry) (count id k : ℕ) → IsTable row others count → id ≡ k + 1 → k < length row
    → entry_of (placed 1 row ++ others.entries) id ≡ get_or row k None
in_row row others count id k table e h = entry_at row others.entries id k e ∙ alone (get_or row k None) (entry_of others.entries id) (table.apart id (omega (arith, table.short)))

pub beside : (row : List (Option Entry)) (others : Held) (id : ℕ) → (id ≡ 0) ⊎ (length row < id) → entry_of (placed 1 row ++ others) id ≡ entry_of others id
beside row others zero out = entry_of_0 row others zero refl
beside row others (suc k) (inl e) = cc
beside row others (suc k) (inr h) = entry_at row others (suc k) k (omega arith) ∙ ap (λ (u : Option Entry). either u (entry_of others (suc k))) (get_or_past row k None (omega arith))

-- a change of the row at one place
pub HoldsAt-row : (old new : List (Option Entry)) (others : Held) (id k : ℕ) (entry : Option Entry) → id ≡ k + 1 → get_or new k None ≡ entry → ((j : ℕ) → j ≢ k → get_or new j None ≡ get_or old j None)
    → entry_of others id ≡ None → HoldsAt (placed 1 old ++ others) (placed 1 new ++ others) id entry
HoldsAt-row old new others id k entry e here rest none = record {
  here = entry_at new others id k e ∙ alone (get_or new k None) (entry_of others id) none ∙ here;
  others = at_other;
}
  where
    at_other : (other : ℕ) → other ≢ id → entry_of (placed 1 new ++ others) other ≡ entry_of (placed 1 old ++ others) other
    at_other zero apart = entry_of_0 new others zero refl ∙ sym (entry_of_0 old others zero refl)
    at_other (suc j) apart =
        entry_at new others (suc j) j (omega arith) ∙ ap (λ (u : Option Entry). either u (entry_of others (suc j))) (rest j (λ (same_place : j ≡ k). apart (omega arith)))
        ∙ sym (entry_at old others (suc j) j (omega arith))

-- a change beside the row
pub HoldsAt-beside : (row : List (Option Entry)) (old new : Held) (id : ℕ) (entry : Option Entry) → (id ≡ 0) ⊎ (length row < id) → HoldsAt old new id entry
    → HoldsAt (placed 1 row ++ old) (placed 1 row ++ new) id entry
HoldsAt-beside row old new id entry out holds = record {
  here = beside row new id out ∙ holds.here;
  others = λ other apart. entry_of-append (placed 1 row) new other ∙ ap (λ (u : Option Entry). either (entry_of (placed 1 row) other) u) (holds.others other apart)
      ∙ sym (entry_of-append (placed 1 row) old other);
}

abbrev size : Option Entry → ℕ
size None = 0
size (Some entry) = 1

length-placed_set : (first k : ℕ) (row : List (Option Entry)) (o : Option Entry) → k < length row → length (placed first (set row k o)) + size (get_or row k None) ≡ length (placed first row) + size o
length-placed_set first k [] o h = absurd (omega arith)
length-placed_set first zero (None ∷ row) None h = refl
length-placed_set first zero (None ∷ row) (Some x) h = omega arith
length-placed_set first zero (Some y ∷ row) None h = omega arith
length-placed_set first zero (Some y ∷ row) (Some x) h = refl
length-placed_set first (suc k) (None ∷ row) o h = length-placed_set (suc first) k row o (omega arith)
length-placed_set first (suc k) (Some y ∷ row) o h = omega (arith, length-placed_set (suc first) k row o (omega arith))

placed-replicate : (first n : ℕ) → placed first (replicate n None) ≡ []
placed-replicate first zero = refl
placed-replicate first (suc n) = placed-replicate (suc first) n

-- empty places at the end hold nothing
placed-extended : (first n : ℕ) (row : List (Option Entry)) → placed first (row ++ replicate n None) ≡ placed first row
placed-extended first n [] = placed-replicate first n
placed-extended first n (None ∷ row) = placed-extended (suc first) n row
placed-extended first n (Some x ∷ row) = ap (λ (u : Held). (first, x) ∷ u) (placed-extended (suc first) n row)

get_or-any : (row : List (Option Entry)) (k : ℕ) (a b : Option Entry) → k < length row → get_or row k a ≡ get_or row k b
get_or-any [] k a b h = absurd (omega arith)
get_or-any (x ∷ row) zero a b h = refl
get_or-any (x ∷ row) (suc k) a b h = get_or-any row k a b (omega arith)

-- a table whose parts changed so that this stands under the id; its count is still the old one
pub record Changed (held : Held) (id : ℕ) (o : Option Entry) (row : List (Option Entry)) (others : BTreeMap ℕ Entry) (count : ℕ) : Type 0 where
  pub holds : HoldsAt held (placed 1 row ++ others.entries) id o
  pub sized : length (placed 1 row ++ others.entries) + size (entry_of held id) ≡ length held + size o
  pub short : length row ≤ 8192
  pub apart : (other : ℕ) → other ≤ 8192 → entry_of others.entries other ≡ None
  pub was : count ≡ length held
  pub few : count ≤ 8192

pub changed_at : (row : List (Option Entry)) (others : BTreeMap ℕ Entry) (held : Held) (count id k : ℕ) (o : Option Entry) → placed 1 row ++ others.entries ≡ held → IsTable row others count
    → id ≡ k + 1 → k < length row → Changed held id o (set row k o) others count
changed_at row others held count id k o is table e h = subst (λ (u : Held). Changed u id o (set row k o) others count) is (record {
  holds = HoldsAt-row row (set row k o) others.entries id k o e (get_or-set_same row k o None h) (λ j apart. get_or-set_other row k j o None apart) (table.apart id (omega (arith, table.short)));
  sized = omega (
    arith,
    length-append (placed 1 row) others.entries,
    length-append (placed 1 (set row k o)) others.entries,
    length-placed_set 1 k row o h,
    ap size (in_row row others count id k table e h),
  );
  short = omega (arith, table.short, length-set row k o);
  apart = table.apart;
  was = table.counted;
  few = table.few;
})

pub changed_in_row : (row extended : List (Option Entry)) (others : BTreeMap ℕ Entry) (held : Held) (count id k : ℕ) (o : Option Entry) → placed 1 row ++ others.entries ≡ held
    → IsTable row others count → extended ≡ row ++ replicate (id - length row) None → id ≡ k + 1 → id ≤ 8192 → Changed held id o (set extended k o) others count
changed_in_row row extended others held count id k o is table extends e low =
    changed_at extended others held count id k o (same_held ∙ is) (record {
      counted = table.counted ∙ ap length (sym same_held);
      few = table.few;
      short = omega (arith, table.short, long);
      apart = table.apart;
    }) e (omega (arith, long))
  where
    same_held : placed 1 extended ++ others.entries ≡ placed 1 row ++ others.entries
    same_held = ap (λ (u : List (Option Entry)). placed 1 u ++ others.entries) extends ∙ ap (λ (u : Held). u ++ others.entries) (placed-extended 1 (id - length row) row)

    long : length extended ≡ length row + (id - length row)
    long = ap length extends ∙ length-append row (replicate (id - length row) None) ∙ ap (λ (n : ℕ). length row + n) (length-replicate (id - length row) None)

pub changed_beside : (row : List (Option Entry)) (others new : BTreeMap ℕ Entry) (held : Held) (count id : ℕ) (o : Option Entry) → placed 1 row ++ others.entries ≡ held → IsTable row others count
    → 8192 < id → UpdatesBy nat_cmp (nat_cmp id) others new o → length new.entries + size (entry_of others.entries id) ≡ length others.entries + size o → Changed held id o row new count
changed_beside row others new held count id o is table far updates sized = subst (λ (u : Held). Changed u id o row new count) is (record {
  holds = HoldsAt-beside row others.entries new.entries id o (inr (omega (arith, table.short))) (HoldsAt-updates others.entries others new id o refl updates);
  sized = omega (arith, length-append (placed 1 row) others.entries, length-append (placed 1 row) new.entries, sized, ap size (beside row others.entries id (inr (omega (arith, table.short)))));
  short = table.short;
  apart = λ other least. updates.2 other (apart_above id other (omega arith)) ∙ table.apart other least;
  was = table.counted;
  few = table.few;
})

-- an id whose object has no place
pub beyond : (row : List (Option Entry)) (others : BTreeMap ℕ Entry) (held : Held) (count id : ℕ) (x : Entry) → placed 1 row ++ others.entries ≡ held → IsTable row others count → (id ≡ 0)
    ⊎ (length row < id) → Some x ≡ entry_of held id → 8192 < id
beyond row others held count id x is table out some = ⊎_elim (λ (far : 8192 < id). far) (λ (low : id ≤ 8192). absurd (none_there (none low ∙ sym some))) (far_or_low id)
  where
    far_or_low : (n : ℕ) → (8192 < n) ⊎ (n ≤ 8192)
    far_or_low n = grind arith

    none : id ≤ 8192 → None ≡ entry_of held id
    none low = sym (sym (ap (λ (u : Held). entry_of u id) is) ∙ beside row others.entries id out ∙ table.apart id low)

    none_there : (◌≡◌ {A = Option Entry} None (Some x)) → ⊥
    none_there h = cc

pub found_at : (row : List (Option Entry)) (others : BTreeMap ℕ Entry) (held : Held) (count id k : ℕ) (o : Option Entry) → placed 1 row ++ others.entries ≡ held → IsTable row others count → id ≡ k + 1
    → k < length row → o ≡ get_or row k o → o ≡ entry_of held id
found_at row others held count id k o is table e h read =
    read ∙ get_or-any row k o None h ∙ sym (in_row row others count id k table e h) ∙ ap (λ (u : Held). entry_of u id) is

pub found_beside : (row : List (Option Entry)) (others : BTreeMap ℕ Entry) (held : Held) (id : ℕ) → placed 1 row ++ others.entries ≡ held → (id ≡ 0) ⊎ (length row < id)
    → entry_of others.entries id ≡ entry_of held id
found_beside row others held id is out = sym (beside row others.entries id out) ∙ ap (λ (u : Held). entry_of u id) is

-- what is beside the row is written to
pub changed_written : (row : List (Option Entry)) (others new : BTreeMap ℕ Entry) (held : Held) (count id : ℕ) (x y : Entry) → placed 1 row ++ others.entries ≡ held → IsTable row others count
    → (id ≡ 0) ⊎ (length row < id) → Some x ≡ entry_of others.entries id → UpdatesBy nat_cmp (nat_cmp id) others new (Some y) → length new.entries ≡ length others.entries
    → Changed held id (Some y) row new count
changed_written row others new held count id x y is table out some updates as_many =
    changed_beside row others new held count id (Some y) is table (beyond row others held count id x is table out (some ∙ found_beside row others held id is out)) updates
    (omega (arith, as_many, sym (ap size some)))

-- one object more
pub whole_more : (held : Held) (id : ℕ) (x : Entry) (row : List (Option Entry)) (others : BTreeMap ℕ Entry) (count : ℕ) → Changed held id (Some x) row others count → entry_of held id ≡ None
    → length held < 8192 → IsTable row others (count + 1)
whole_more held id x row others count changed free room = record {
  counted = omega (arith, changed.sized, changed.was, ap size free);
  few = omega (arith, changed.was);
  short = changed.short;
  apart = changed.apart;
}

pub longer : (held : Held) (id : ℕ) (x : Entry) (row : List (Option Entry)) (others : BTreeMap ℕ Entry) (count : ℕ) → Changed held id (Some x) row others count → entry_of held id ≡ None
    → length (placed 1 row ++ others.entries) ≡ length held + 1
longer held id x row others count changed free = omega (arith, changed.sized, ap size free)

-- one object less
pub not_empty : (held : Held) (id : ℕ) (x : Entry) → Some x ≡ entry_of held id → 1 ≤ length held
not_empty [] id x e = cc
not_empty (y ∷ held) id x e = omega arith

pub whole_less : (held : Held) (id : ℕ) (x : Entry) (row : List (Option Entry)) (others : BTreeMap ℕ Entry) (count : ℕ) → Changed held id None row others count → Some x ≡ entry_of held id
    → IsTable row others (count - 1)
whole_less held id x row others count changed some = record {
  counted = omega (arith, changed.sized, changed.was, ap size some, not_empty held id x some);
  few = omega (arith, changed.few);
  short = changed.short;
  apart = changed.apart;
}

pub shorter : (held : Held) (id : ℕ) (x : Entry) (row : List (Option Entry)) (others : BTreeMap ℕ Entry) (count : ℕ) → Changed held id None row others count → Some x ≡ entry_of held id
    → length (placed 1 row ++ others.entries) + 1 ≡ length held
shorter held id x row others count changed some = omega (arith, changed.sized, ap size some)

-- as many objects
pub whole_same : (held : Held) (id : ℕ) (x y : Entry) (row : List (Option Entry)) (others : BTreeMap ℕ Entry) (count : ℕ) → Changed held id (Some y) row others count → Some x ≡ entry_of held id
    → IsTable row others count
whole_same held id x y row others count changed some = record {
  counted = omega (arith, changed.sized, changed.was, ap size some);
  few = changed.few;
  short = changed.short;
  apart = changed.apart;
}

pub as_long : (held : Held) (id : ℕ) (x y : Entry) (row : List (Option Entry)) (others : BTreeMap ℕ Entry) (count : ℕ) → Changed held id (Some y) row others count → Some x ≡ entry_of held id
    → length (placed 1 row ++ others.entries) ≡ length held
as_long held id x y row others count changed some = omega (arith, changed.sized, ap size some)

-- nothing changes where there is none
pub HoldsAt-none : (held : Held) (id : ℕ) (o : Option Entry) → entry_of held id ≡ None → o ≡ None → HoldsAt held held id o
HoldsAt-none held id o e none = record { here = e ∙ sym none; others = λ other apart. refl }

-- what a map's insert and its remove say of its length
pub counted_insert : (old o : Option Entry) (n m : ℕ) → old ≡ o → n ≡ m + cond (is_some old) 0 1 → n + size o ≡ m + 1
counted_insert None o n m e l = omega (arith, sym (ap size e), l)
counted_insert (Some x) o n m e l = omega (arith, sym (ap size e), l)

pub counted_remove : (old o : Option Entry) (n m : ℕ) → old ≡ o → n + cond (is_some old) 1 0 ≡ m → n + size o ≡ m + 0
counted_remove None o n m e l = omega (arith, sym (ap size e), l)
counted_remove (Some x) o n m e l = omega (arith, sym (ap size e), l)

pub out_of : (id n m : ℕ) → (id ≡ 0) ⊎ (n < id) → n ≡ m → (id ≡ 0) ⊎ (m < id)
out_of id n m (inl z) e = inl z
out_of id n m (inr far) e = inr (omega arith)

-- the next id, where it has a place
pub next_placed : (row : List (Option Entry)) (others : BTreeMap ℕ Entry) (held : Held) (count id place : ℕ) → placed 1 row ++ others.entries ≡ held → IsTable row others count → id ≤ place
    → place < length row → IsSome (get_or row place None) → ((other : ℕ) → id ≤ other → other < place → get_or row other None ≡ None) → (id < place + 1) × IsSome (entry_of held (place + 1))
    × ((other : ℕ) → id < other → other < place + 1 → entry_of held other ≡ None)
next_placed row others held count id place is table least within some none = (
  omega arith,
  ap (λ (u : Held). is_some (entry_of u (place + 1))) (sym is) ∙ ap is_some (in_row row others count (place + 1) place table refl within) ∙ some,
  none_between,
)
  where
    none_between : (other : ℕ) → id < other → other < place + 1 → entry_of held other ≡ None
    none_between zero over under = absurd (omega arith)
    none_between (suc j) over under =
        ap (λ (u : Held). entry_of u (suc j)) (sym is) ∙ in_row row others count (suc j) j table (omega arith) (omega arith) ∙ none j (omega arith) (omega arith)

-- above the last place at which an object stands
pub above_places : (row : List (Option Entry)) (others held : Held) (id : ℕ) → placed 1 row ++ others ≡ held → ((other : ℕ) → id ≤ other → get_or row other None ≡ None) → (other : ℕ) → id < other
    → entry_of held other ≡ entry_of others other
above_places row others held id is none zero over = absurd (omega arith)
above_places row others held id is none (suc j) over =
    ap (λ (u : Held). entry_of u (suc j)) (sym is) ∙ entry_at row others (suc j) j (omega arith) ∙ ap (λ (u : Option Entry). either u (entry_of others (suc j))) (none j (omega arith))

pub next_beside : (others held : Held) (id next : ℕ) → ((other : ℕ) → id < other → entry_of held other ≡ entry_of others other) → (id < next) × IsSome (entry_of others next)
    × ((other : ℕ) → id < other → other < next → entry_of others other ≡ None) → (id < next) × IsSome (entry_of held next) × ((other : ℕ) → id < other → other < next → entry_of held other ≡ None)
next_beside others held id next same_above is = (
  is.0,
  ap is_some (same_above next is.0) ∙ is.1,
  λ other over under. same_above other over ∙ is.2 other over under,
)
