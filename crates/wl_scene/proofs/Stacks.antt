-- What the calls on a scene make of its list.
use Rattle.std.proofs.Common.{◌≡◌, ℕ, zero, suc, ◌<◌, ◌≤◌, List, [], ◌∷◌, ◌++◌, Bool, true, false, Some, None, refl, ap, sym, ◌∙◌, map, length, get_or, set, take, arith}
use Rattle.std.specs.Prelude.{pos, ◌==◌, cond, filter, nat_lt}
use Rattle.std.specs.List.{position, position_or_len, remove}
use Rattle.std.proofs.lemmas.Bool.{eqb-true}
use Rattle.std.proofs.lemmas.List.{map-append, take-append-le, take_all}
use Rattle.std.proofs.lemmas.Bool.Decides.{nat_tests}
use Rattle.std.proofs.lemmas.List.Quantifiers.{position-Some}
use Rattle.std.proofs.lemmas.List.Sums.{fails_before_first}
use Rattle.wl_scene.specs.declared.scene.Toplevel.{Toplevel}
use Rattle.spec_desktop.specs.Stacking.{Standing, is_of, moved_to, raised}
use Rattle.wl_scene.specs.Kept.{standing_of}
use Rattle.spec_desktop.specs.Windows.{Place}
use Rattle.wl_scene.proofs.Truth.{and-left, and-right}

-- to leave out, and then to see
pub map-filter : {X Y : Type 0} (f : X → Y) (p : Y → Bool) (xs : List X) → map f (filter (λ x. p (f x)) xs) ≡ filter p (map f xs)
map-filter f p [] = refl
map-filter f p (x ∷ xs) = at (p (f x)) (map-filter f p xs)
  where
    at : (b : Bool) → map f (filter (λ x. p (f x)) xs) ≡ filter p (map f xs)
        → map f (cond b (x ∷ filter (λ x. p (f x)) xs) (filter (λ x. p (f x)) xs)) ≡ cond b (f x ∷ filter p (map f xs)) (filter p (map f xs))
    at true e = ap (λ ys. f x ∷ ys) e
    at false e = e

-- a toplevel that is of no surface
abbrev pub nobody : Toplevel
nobody = record { surface = record { client = 0; surface = 0 }; x = pos 0; y = pos 0 }

-- the toplevel is of this surface
abbrev pub is_at : ℕ → ℕ → Toplevel → Bool
is_at c s t = is_of c s (standing_of t)

-- the first toplevel of a surface moves up to the top
raised-at : (c s : ℕ) (xs : List Toplevel) (k : ℕ) → k < length xs → is_at c s (get_or xs k nobody) ≡ true → ((j : ℕ) → j < k → is_at c s (get_or xs j nobody) ≡ false)
    → map standing_of (remove xs k ++ get_or xs k nobody ∷ []) ≡ raised c s (map standing_of xs)
raised-at c s [] k h here before = absurd (omega arith)
raised-at c s (x ∷ xs) zero h here before = rw here (map-append standing_of xs (x ∷ []))
raised-at c s (x ∷ xs) (suc k) h here before =
    rw (before 0 (omega arith)) (ap (λ ys. standing_of x ∷ ys) (raised-at c s xs k (omega arith) here (λ j less. before (suc j) (omega arith))))

-- a toplevel that is of this surface, at another place
this-at : (c s : ℕ) (place : Place) (t : Standing) → is_of c s t ≡ true → record t { place = place } ≡ record { client = c; surface = s; place = place }
this-at c s place t h =
    let client = eqb-true t.client c (and-left (t.client == c) (t.surface == s) h) in
    let surface = eqb-true t.surface s (and-right (t.client == c) (t.surface == s) h) in
    rw (client, surface) refl

moved-at : (c s : ℕ) (place : Place) (y : Toplevel) (xs : List Toplevel) (k : ℕ) → standing_of y ≡ record { client = c; surface = s; place = place } → k < length xs
    → is_at c s (get_or xs k nobody) ≡ true → ((j : ℕ) → j < k → is_at c s (get_or xs j nobody) ≡ false) → map standing_of (set xs k y) ≡ moved_to c s place (map standing_of xs)
moved-at c s place y [] k is h here before = absurd (omega arith)
moved-at c s place y (x ∷ xs) zero is h here before = rw here (ap (λ t. t ∷ map standing_of xs) (is ∙ sym (this-at c s place (standing_of x) here)))
moved-at c s place y (x ∷ xs) (suc k) is h here before =
    rw (before 0 (omega arith)) (ap (λ ys. standing_of x ∷ ys) (moved-at c s place y xs k is (omega arith) here (λ j less. before (suc j) (omega arith))))

-- where none is of this surface nothing changes
raised-none : (c s : ℕ) (xs : List Toplevel) → ((j : ℕ) → j < length xs → is_at c s (get_or xs j nobody) ≡ false) → raised c s (map standing_of xs) ≡ map standing_of xs
raised-none c s [] none = refl
raised-none c s (x ∷ xs) none = rw (none 0 (omega arith)) (ap (λ ys. standing_of x ∷ ys) (raised-none c s xs (λ j less. none (suc j) (omega arith))))

moved-none : (c s : ℕ) (place : Place) (xs : List Toplevel) → ((j : ℕ) → j < length xs → is_at c s (get_or xs j nobody) ≡ false) → moved_to c s place (map standing_of xs) ≡ map standing_of xs
moved-none c s place [] none = refl
moved-none c s place (x ∷ xs) none = rw (none 0 (omega arith)) (ap (λ ys. standing_of x ∷ ys) (moved-none c s place xs (λ j less. none (suc j) (omega arith))))

pub not_there : (b : Bool) (n : ℕ) → cond b (Some n) None ≡ None → b ≡ false
not_there true n e = cc
not_there false n e = refl

absent : (c s : ℕ) (xs : List Toplevel) → position (is_at c s) xs ≡ None → (j : ℕ) → j < length xs → is_at c s (get_or xs j nobody) ≡ false
absent c s xs e j less =
    let past : nat_lt (position_or_len (is_at c s) xs) (length xs) ≡ false = not_there _ _ e in
    let beyond : length xs ≤ position_or_len (is_at c s) xs = grind (arith, nat_tests) in
    fails_before_first (is_at c s) xs j nobody (omega (arith, beyond, less))

pub raised-found : (c s : ℕ) (xs : List Toplevel) (k : ℕ) → position (is_at c s) xs ≡ Some k → map standing_of (remove xs k ++ get_or xs k nobody ∷ []) ≡ raised c s (map standing_of xs)
raised-found c s xs k e = let at = position-Some (is_at c s) xs k nobody e in raised-at c s xs k at.0 at.1 at.2

pub moved-found : (c s : ℕ) (place : Place) (y : Toplevel) (xs : List Toplevel) (k : ℕ) → standing_of y ≡ record { client = c; surface = s; place = place } → position (is_at c s) xs ≡ Some k
    → map standing_of (set xs k y) ≡ moved_to c s place (map standing_of xs)
moved-found c s place y xs k is e = let at = position-Some (is_at c s) xs k nobody e in moved-at c s place y xs k is at.0 at.1 at.2

pub raised-absent : (c s : ℕ) (xs : List Toplevel) → position (is_at c s) xs ≡ None → raised c s (map standing_of xs) ≡ map standing_of xs
raised-absent c s xs e = raised-none c s xs (absent c s xs e)

pub moved-absent : (c s : ℕ) (place : Place) (xs : List Toplevel) → position (is_at c s) xs ≡ None → moved_to c s place (map standing_of xs) ≡ map standing_of xs
moved-absent c s place xs e = moved-none c s place xs (absent c s xs e)

-- what is written over the whole of a list
pub written-whole : {X : Type 0} (n : ℕ) (new rest : List X) → length new ≡ n → take n (new ++ rest) ≡ new
written-whole n new rest e = take-append-le n new rest (omega (arith, e)) ∙ take_all n new (omega (arith, e))
