-- Spans that are cut to an output.
use Rattle.std.proofs.Common.{◌≡◌, ℕ, ◌≤◌, ◌+◌, Bool, ◌||◌, ◌&&◌, ◌≢◌, ◌<◌, ◌-◌, true, false, arith, sym, ◌∙◌, inl, inr, pos, ℤ, ◌+ℤ◌, ◌-ℤ◌, max, min, ◌*◌, ◌/◌, ◌%◌}
use Rattle.std.specs.Prelude.{int_lt, nat_lt, unsigned_abs, ◌⊎◌}
use Rattle.std.proofs.lemmas.Bool.{cases_lt}
use Rattle.std.proofs.lemmas.Int.{ints}
use Rattle.std.proofs.lemmas.Bool.Decides.{nat_tests}
use Rattle.wl_geom.specs.Rect.{in_span}
use Rattle.wl_paint.specs.Damage.{is_between}

-- a number is in the span where it is between the ends that were cut
pub in_span-clipped : (start len f e : ℤ) (at first end last : ℕ) → f ≡ start → e ≡ start +ℤ len → last ≡ max end first
    → nat_lt at first ≡ int_lt (pos at) f → nat_lt at end ≡ int_lt (pos at) e → in_span start len (pos at) ≡ is_between first last at
in_span-clipped start len f e at first end last a b c p q = grind (arith, ints, nat_tests)

-- a row that isn't reached yet, the row that is marked, and the others
pub is_between-empty : (was span : Bool) (top y : ℕ) → (was || (span && is_between top y y)) ≡ was
is_between-empty was span top y = grind (arith, nat_tests)

-- no row is marked yet
pub is_between-none : (was span : Bool) (top k : ℕ) → was ≡ (was || (span && is_between top top k))
is_between-none was span top k = grind (arith, nat_tests)

pub is_between-here : (was span : Bool) (top y : ℕ) → top ≤ y → (was || span) ≡ (was || (span && is_between top (y + 1) y))
is_between-here was span top y h = grind (arith, nat_tests)

pub is_between-other : (was span : Bool) (top y k : ℕ) → k ≢ y
    → (was || (span && is_between top y k)) ≡ (was || (span && is_between top (y + 1) k))
is_between-other was span top y k h = grind (arith, nat_tests)

-- a place is in the span where its distance from the first place is between the ends that were cut
pub in_span-part : (start f e : ℤ) (len at i first end last : ℕ) → f ≡ start -ℤ pos at → e ≡ (start +ℤ pos len) -ℤ pos at → last ≡ max end first
    → nat_lt i first ≡ int_lt (pos i) f → nat_lt i end ≡ int_lt (pos i) e → in_span start (pos len) (pos (at + i)) ≡ is_between first last i
in_span-part start f e len at i first end last a b c p q = grind (arith, ints, nat_tests)

between_is : (first end i : ℕ) → first ≤ i → i < end → is_between first end i ≡ true
between_is first end i l h = grind (arith, nat_tests)

pub between_none : (first end i : ℕ) → (i < first) ⊎ (end ≤ i) → is_between first end i ≡ false
between_none first end i h = elim h [ inl l ↦ grind (arith, nat_tests) | inr g ↦ grind (arith, nat_tests) ]

between_first : (first end : ℕ) → is_between first end first ≡ false → end ≤ first
between_first first end h = grind (arith, nat_tests)

-- where the first place of a part isn't in the span, none of the places is
pub none_in_part : (span : ℕ → Bool) (first end count : ℕ) → ((i : ℕ) → i < count → span i ≡ is_between first end i) → end ≤ count → span first ≡ false
    → (i : ℕ) → i < count → span i ≡ false
none_in_part span first end count same within none i h =
    elim (cases_lt first count) [
      | inl l ↦ (
          let empty : end ≤ first = between_first first end (sym (same first l) ∙ none) in
          same i h ∙ between_none first end i (elim (cases_lt i first) [ inl before ↦ inl before | inr after ↦ inr (omega arith) ]))
      | inr g ↦ (same i h ∙ between_none first end i (inl (omega arith)))
    ]

offset_more : (start : ℤ) (len a b i : ℕ) → in_span start (pos len) (pos a) ≡ true → in_span start (pos len) (pos b) ≡ true → a ≤ b
    → i ≡ unsigned_abs (pos a -ℤ start) → (unsigned_abs (pos b -ℤ start) ≡ i + (b - a)) × (i + (b - a) < len)
offset_more start len a b i here there order is = (grind (arith, ints, nat_tests), grind (arith, ints, nat_tests))

-- as many places as the part has follow its first in the span
pub part_fits : (start : ℤ) (len x i first end count : ℕ) → ((k : ℕ) → k < count → in_span start (pos len) (pos (x + k)) ≡ is_between first end k)
    → first ≤ end → end ≤ count → i ≡ unsigned_abs (pos (x + first) -ℤ start) → in_span start (pos len) (pos (x + first)) ≡ true → i < len
    → i + (end - first) ≤ len
part_fits start len x i first end count same order within is inside small =
    elim (cases_lt first end) [
      | inl l ↦ (
          let last : in_span start (pos len) (pos (x + (end - 1))) ≡ true = same (end - 1) (omega arith) ∙ between_is first end (end - 1) (omega arith) (omega arith) in
          omega (arith, (offset_more start len (x + first) (x + (end - 1)) i inside last (omega arith) is).1))
      | inr g ↦ omega arith
    ]

-- how far a place of the part lies in the span
pub part_offset : (start : ℤ) (len x i first end count : ℕ) → ((k : ℕ) → k < count → in_span start (pos len) (pos (x + k)) ≡ is_between first end k)
    → i ≡ unsigned_abs (pos (x + first) -ℤ start) → in_span start (pos len) (pos (x + first)) ≡ true → (k : ℕ) → k < count → first ≤ k → k < end
    → (in_span start (pos len) (pos (x + k)) ≡ true) × (unsigned_abs (pos (x + k) -ℤ start) ≡ i + (k - first))
part_offset start len x i first end count same is inside k h from to =
    let here : in_span start (pos len) (pos (x + k)) ≡ true = same k h ∙ between_is first end k from to in
    let more = offset_more start len (x + first) (x + k) i inside here (omega arith) is in
    (here, omega (arith, more.0))

-- a place to the right that is still in the span
pub offset_within : (start : ℤ) (len a i k : ℕ) → in_span start (pos len) (pos a) ≡ true → i ≡ unsigned_abs (pos a -ℤ start) → i + k < len
    → (in_span start (pos len) (pos (a + k)) ≡ true) × (unsigned_abs (pos (a + k) -ℤ start) ≡ i + k)
offset_within start len a i k here is small = (grind (arith, ints, nat_tests), grind (arith, ints, nat_tests))

-- the part of a span that lies in one word of 64 places
pub between_in_word : (first end k x low high : ℕ) → x / 64 ≡ k → low ≡ max first (64 * k) - 64 * k → high ≡ min end (64 * k + 64) - 64 * k
    → is_between low high (x % 64) ≡ is_between first end x
between_in_word first end k x low high h l u = grind (arith, nat_tests)
