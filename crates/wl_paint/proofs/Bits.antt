-- Bits of words.
use Rattle.std.proofs.Common.{◌≡◌, ℕ, zero, suc, ◌<◌, ◌≤◌, ◌+◌, ◌-◌, ◌*◌, ◌%◌, ◌^◌, max, Bool, true, false, not, ◌||◌, arith, ◌∙◌, ap, sym, inl, inr, refl, w64, bit_and, bit_or}
use Rattle.std.specs.Prelude.{◌==◌, count_ones, if◌then◌else◌}
use Rattle.std.specs.Int.{bit_at, bit_not, trailing_zeros}
use Rattle.std.specs.Int.Count.{trailing_of_zero}
use Rattle.std.proofs.lemmas.Bool.{cases_lt}
use Rattle.std.proofs.lemmas.Bool.Decides.{nat_tests}
use Rattle.std.proofs.lemmas.Nat.{and_le_l, mod-pow-add, ones_cat, ones_le_self, zero_from_ones, mod_below, pow_pos}
use Rattle.std.proofs.lemmas.Nat.Bits.{bit_at_or, bit_at-lt, bit_at_mask_inside, bit_at_mask_below, bit_at_mask_above, bit_at_not, bit_at-zero, bit_at-trailing_zeros, bit_at_and, ones_shl}
use Rattle.wl_paint.specs.Damage.{count_below, is_between}
use Rattle.wl_paint.specs.Words.{is_set}
use Rattle.wl_paint.proofs.Marks.{count_below-grow}

set_or_mark : (a b : ℕ) → a < 2 → b ≡ 1 → (max a b == 1) ≡ ((a == 1) || true)
set_or_mark a b h e = grind (arith, nat_tests)

set_or_none : (a b : ℕ) → a < 2 → b ≡ 0 → (max a b == 1) ≡ ((a == 1) || false)
set_or_none a b h e = grind (arith, nat_tests)

between_yes : (lo hi i : ℕ) → lo ≤ i → i < hi → is_between lo hi i ≡ true
between_yes lo hi i l h = grind (arith, nat_tests)

between_below : (lo hi i : ℕ) → i < lo → is_between lo hi i ≡ false
between_below lo hi i h = grind (arith, nat_tests)

between_above : (lo hi i : ℕ) → hi ≤ i → is_between lo hi i ≡ false
between_above lo hi i h = grind (arith, nat_tests)

pub is_set-or_mask : (word lo hi i : ℕ) → is_set (bit_or word (2 ^ hi - 2 ^ lo)) i ≡ (is_set word i || is_between lo hi i)
is_set-or_mask word lo hi i =
    elim (cases_lt i lo) [
      | inl l ↦ (rw (bit_at_or word (2 ^ hi - 2 ^ lo) i, between_below lo hi i l) (set_or_none (bit_at word i) _ (bit_at-lt word i) (bit_at_mask_below lo hi i l)))
      | inr g ↦ elim (cases_lt i hi) [
        | inl h ↦ (rw (bit_at_or word (2 ^ hi - 2 ^ lo) i, between_yes lo hi i g h) (set_or_mark (bit_at word i) _ (bit_at-lt word i) (bit_at_mask_inside lo hi i g h)))
        | inr h ↦ (rw (bit_at_or word (2 ^ hi - 2 ^ lo) i, between_above lo hi i h) (set_or_none (bit_at word i) _ (bit_at-lt word i) (bit_at_mask_above lo hi i h)))
      ]
    ]

-- as many bits are 1 as the test passes
ones_bit : (a : ℕ) → a < 2 → ◌≡◌ {A = ℕ} (count_ones a) (if a == 1 then 1 else 0)
ones_bit zero h = omega (arith, ones_le_self 0)
ones_bit (suc zero) h =
    elim (cases_lt (count_ones 1) 1) [
      | inl l ↦ absurd (omega (arith, zero_from_ones 1 (omega arith)))
      | inr g ↦ omega (arith, ones_le_self 1)
    ]
ones_bit (suc (suc a)) h = absurd (omega arith)

pub count_bits : (k word : ℕ) → count_below k (is_set word) ≡ count_ones (word % 2 ^ k)
count_bits zero word =
    let e : word % 1 ≡ 0 = omega arith in
    rw e (omega (arith, ones_le_self 0))
count_bits (suc k) word =
    let s : suc k ≡ 1 + k = omega arith in
    let cut : word % 2 ^ (1 + k) ≡ bit_at word k * 2 ^ k + word % 2 ^ k = mod-pow-add word 1 k in
    rw (count_bits k word, s, cut, ones_cat k (bit_at word k) (word % 2 ^ k) (mod_below word (2 ^ k) (pow_pos k)), ones_bit (bit_at word k) (bit_at-lt word k)) refl

set_not : (a b : ℕ) → a < 2 → b ≡ 1 - a → (b == 1) ≡ not (a == 1)
set_not a b h e = grind (arith, nat_tests)

pub is_set-not : (word i : ℕ) → word < 2 ^ 64 → i < 64 → is_set (bit_not w64 word) i ≡ not (is_set word i)
is_set-not word i fits h = set_not (bit_at word i) (bit_at (bit_not w64 word) i) (bit_at-lt word i) (bit_at_not w64 word i fits h)

-- the bits that a mask leaves
kept_bit : (word low i : ℕ) → low ≤ i → i < 64 → bit_at (bit_and word (2 ^ 64 - 2 ^ low)) i ≡ bit_at word i
kept_bit word low i from to = bit_at_and word (2 ^ 64 - 2 ^ low) i ∙ (let one = bit_at_mask_inside low 64 i from to in omega (arith, one, bit_at-lt word i))

cleared_bit : (word low i : ℕ) → i < low → bit_at (bit_and word (2 ^ 64 - 2 ^ low)) i ≡ 0
cleared_bit word low i h = bit_at_and word (2 ^ 64 - 2 ^ low) i ∙ (let none = bit_at_mask_below low 64 i h in omega (arith, none))

set_is : (a : ℕ) → a ≡ 1 → (a == 1) ≡ true
set_is a e = grind (arith, nat_tests)

clear_is : (a : ℕ) → a ≡ 0 → (a == 1) ≡ false
clear_is a e = grind (arith, nat_tests)

-- the lowest bit that is 1 from `low` on
pub record IsLowest (word low place : ℕ) : Type 0 where
  pub before : (i : ℕ) → low ≤ i → i < place → is_set word i ≡ false
  pub at : place < 64 → is_set word place ≡ true
  pub from : low ≤ place
  pub within : place ≤ 64

no_bits : (word low m : ℕ) → m ≡ bit_and word (2 ^ 64 - 2 ^ low) → m ≡ 0 → low < 64 → IsLowest word low (trailing_zeros w64 m)
no_bits word low m is none small =
    let all : trailing_zeros w64 m ≡ 64 = ap (λ n. trailing_zeros w64 n) none ∙ trailing_of_zero 64 in
    record {
      before = λ i f t. clear_is (bit_at word i) (sym (kept_bit word low i f (omega (arith, all))) ∙ (ap (λ n. bit_at n i) (sym is ∙ none) ∙ bit_at-zero i));
      at = λ h. absurd (omega (arith, all));
      from = omega (arith, all);
      within = omega (arith, all);
    }

some_bits : (word low m : ℕ) → m ≡ bit_and word (2 ^ 64 - 2 ^ low) → 0 < m → m < 2 ^ 64 → low < 64 → IsLowest word low (trailing_zeros w64 m)
some_bits word low m is some fits small =
    let first = bit_at-trailing_zeros w64 m some fits in
    let above : low ≤ trailing_zeros w64 m = elim (cases_lt (trailing_zeros w64 m) low) [
      | inl l ↦ absurd (omega (arith, first.1, ap (λ n. bit_at n (trailing_zeros w64 m)) is, cleared_bit word low (trailing_zeros w64 m) l))
      | inr g ↦ g
    ] in
    record {
      before = λ i f t. clear_is (bit_at word i) (sym (kept_bit word low i f (omega (arith, first.0))) ∙ (ap (λ n. bit_at n i) (sym is) ∙ first.2 i t));
      at = λ h. set_is (bit_at word _) (sym (kept_bit word low _ above first.0) ∙ (ap (λ n. bit_at n (trailing_zeros w64 m)) (sym is) ∙ first.1));
      from = above;
      within = omega (arith, first.0);
    }

pub lowest_is : (word low m : ℕ) → m ≡ bit_and word (2 ^ 64 - 2 ^ low) → m < 2 ^ 64 → low < 64 → IsLowest word low (trailing_zeros w64 m)
lowest_is word low m is fits small =
    elim (cases_lt 0 m) [ inl some ↦ some_bits word low m is some fits small | inr none ↦ no_bits word low m is (omega arith) small ]

-- the same, of the mask as it is computed
pub lowest_masked : (word low : ℕ) → word < 2 ^ 64 → low < 64 → IsLowest word low (trailing_zeros w64 (bit_and word ((2 ^ 64 - 1) * 2 ^ low % 2 ^ 64)))
lowest_masked word low fits small =
    let below = and_le_l word ((2 ^ 64 - 1) * 2 ^ low % 2 ^ 64) in
    lowest_is word low _ (ap (λ n. bit_and word n) (ones_shl 64 low (omega arith))) (omega (arith, below, fits)) small

-- a word of 64 bits has as many that are 1 as are counted below 64
pub ones_below : (word : ℕ) → word < 2 ^ 64 → count_below 64 (is_set word) ≡ count_ones word
ones_below word fits =
    let whole : word % 2 ^ 64 ≡ word = omega arith in
    rw whole at (count_bits 64 word)

set_still : (a b c : Bool) → b ≡ (a || c) → a ≡ true → b ≡ true
set_still a b c e h = grind arith

pub ones_grow : (word marked low high : ℕ) → word < 2 ^ 64 → marked < 2 ^ 64
    → ((i : ℕ) → is_set marked i ≡ (is_set word i || is_between low high i)) → count_ones word ≤ count_ones marked
ones_grow word marked low high fits more bits =
    omega (
      arith,
      ones_below word fits,
      ones_below marked more,
      count_below-grow 64 (is_set word) (is_set marked) (λ k h e. set_still (is_set word k) (is_set marked k) (is_between low high k) (bits k) e),
    )
