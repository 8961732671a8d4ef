-- Words of which each is 0.
use Rattle.std.proofs.Common.{◌≡◌, ℕ, ◌<◌, ◌≤◌, ◌+◌, ◌/◌, ◌%◌, false, List, ◌++◌, length, take, drop, refl, ap, ◌∙◌, arith, inl, inr}
use Rattle.std.specs.Prelude.{slice_index, slice_set}
use Rattle.std.proofs.lemmas.Bool.{cases_eq, cases_lt}
use Rattle.std.proofs.lemmas.List.{get_or-set_same, get_or-set_other, get_or_past, take_at}
use Rattle.std.proofs.lemmas.Nat.Bits.{bit_at-zero}
use Rattle.wl_paint.specs.Words.{is_marked, is_set}

-- one word more is 0
pub zeros-more : (words : List ℕ) (i : ℕ) → i < length words → ((k : ℕ) → k < i → slice_index words k ≡ 0) → (k : ℕ) → k < i + 1 → slice_index (slice_set words i 0) k ≡ 0
zeros-more words i within before k h =
    elim (cases_eq k i) [
      | inl e ↦ (rw e (get_or-set_same words i 0 0 within))
      | inr n ↦ (get_or-set_other words i k 0 0 n ∙ before k (omega arith))
    ]

zero-unset : (i : ℕ) → is_set 0 i ≡ false
zero-unset i = rw (bit_at-zero i) refl

-- where each is 0, no point is marked
pub zeros-unmarked : (words items : List ℕ) (i len : ℕ) → length words ≤ i → length words ≡ len → ((k : ℕ) → k < i → slice_index words k ≡ 0)
    → (x : ℕ) → is_marked (take len (words ++ drop (length words) items)) x ≡ false
zeros-unmarked words items i len all long zero x =
    let here : slice_index words (x / 64) ≡ 0 = elim (cases_lt (x / 64) i) [
      | inl l ↦ zero (x / 64) l
      | inr g ↦ get_or_past words (x / 64) 0 (omega (arith, g, all))
    ] in
    rw (take_at words (drop (length words) items) len long) (ap (λ (w : ℕ). is_set w (x % 64)) here ∙ zero-unset (x % 64))
