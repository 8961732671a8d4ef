-- An id among others that rise, and one put at its place among them.
use Rattle.std.proofs.Common.{◌≡◌, ℕ, ◌+◌, ◌-◌, ◌<◌, ◌≤◌, List, ◌∷◌, Bool, true, false, length, get_or, Ok, Err, ⊎_elim, refl, ap, sym, ◌∙◌, arith}
use Rattle.std.proofs.lemmas.Bool.{cases_eq, eq-eqb, eqb-true}
use Rattle.std.proofs.lemmas.List.Edits.{length-insert, get_or-insert_below, get_or-insert_at, get_or-insert_above}
use Rattle.std.proofs.lemmas.List.Folds.{list_any_at}
use Rattle.std.proofs.lemmas.List.Kept.{AllPairs-from_increasing}
use Rattle.std.proofs.lemmas.List.Sorted.{IsPermutation-insert, list_any-IsPermutation, searched}
use Rattle.std.specs.List.{insert}
use Rattle.std.specs.List.Sorted.{IsBinarySearchResult, IsStrictlyIncreasing}
use Rattle.std.specs.Ordering.{nat_cmp}
use Rattle.std.specs.Prelude.{◌==◌, ◌||◌}
use Rattle.wl_table.specs.Rising.{is_among}

module _ (ids : List ℕ) (rises : IsStrictlyIncreasing ids) (id : ℕ) where
  -- as a binary search asks
  none-falls : (i j : ℕ) → i ≤ j → j < length ids → get_or ids i 0 ≤ get_or ids j 0
  none-falls i j le within =
      ⊎_elim
      (λ same. omega (arith, ap (λ k. get_or ids k 0) same))
      (λ apart. omega (arith, AllPairs-from_increasing ids rises i j 0 (omega arith) within))
      (cases_eq i j)

  -- an id that is found is among them
  pub found-among : (place : ℕ) → IsBinarySearchResult (λ n. nat_cmp n id) ids (Ok place) → (other : ℕ)
      → is_among other ids ≡ ((id == other) || is_among other ids)
  found-among place found other = at (id == other) refl
    where
      at : (b : Bool) → (id == other) ≡ b → is_among other ids ≡ (b || is_among other ids)
      at true e =
          let here = searched ids id (Ok place) found none-falls in
          list_any_at (λ n. n == other) ids place 0 here.0 (eq-eqb (get_or ids place 0) other (here.1 ∙ eqb-true id other e))
      at false e = refl

  -- at the place of one that isn't, those before are less, and those from there on more
  pub put-rises : (place : ℕ) → IsBinarySearchResult (λ n. nat_cmp n id) ids (Err place) → IsStrictlyIncreasing (insert ids place id)
  put-rises place absent k within =
      let gap = searched ids id (Err place) absent none-falls in
      let more = length-insert ids place id gap.0 in
      let put = insert ids place id in
      let before : (i : ℕ) → i < place → get_or put i 0 ≡ get_or ids i 0 = λ i less. get_or-insert_below ids place id 0 i less gap.0 in
      let here : (i : ℕ) → i ≡ place → get_or put i 0 ≡ id = λ i same. rw same (get_or-insert_at ids place id 0 gap.0) in
      let after : (i : ℕ) → place ≤ i → get_or put (i + 1) 0 ≡ get_or ids i 0 = λ i le. get_or-insert_above ids place id 0 i le gap.0 in
      grind (arith, before k, here k, before (k + 1), here (k + 1), after k, after (k - 1), rises k, rises (k - 1), gap.1 k, gap.2 k)

-- wherever an id is put, it is among them then, with those that were
pub put-among : (ids : List ℕ) (place id other : ℕ) → is_among other (insert ids place id) ≡ ((id == other) || is_among other ids)
put-among ids place id other =
    sym (list_any-IsPermutation (λ n. n == other) (id ∷ ids) (insert ids place id) (IsPermutation-insert ids place id))
