-- The first message of a stream stays the first, whatever comes behind.
use Rattle.std.proofs.Common.{◌≡◌, ℕ, ◌+◌, List, ◌++◌, length, drop, Bool, true, false, refl, ap, subst, sym, ◌∙◌}
use Rattle.std.proofs.Common.{arith, length-append, length-drop, ◌≢◌, ◌/◌, ◌%◌, ◌≤◌}
use Rattle.std.specs.Prelude.{nat_lt, if◌then◌else◌}
use Rattle.std.proofs.lemmas.Bool.Decides.{nat_tests}
use Rattle.std.proofs.lemmas.List.{take-append-le, drop-append-le}
use Rattle.wl_wire.specs.Wire.{split_of, word_of, is_size}
use Rattle.wl_wire.specs.declared.header.Split.{Split}
use Rattle.wl_wire.specs.declared.header.Split.TheVariants.{Message, More, Bad}

-- a split by its tests
abbrev split_by : Bool → Bool → Bool → ℕ → ℕ → ℕ → Split
split_by true ok cut o op n = More
split_by false false cut o op n = Bad
split_by false true true o op n = More
split_by false true false o op n = Message o op n

abbrev size_of : List ℕ → ℕ
size_of r = word_of 4 r / 65536

split_is : (r : List ℕ) → split_of r ≡ split_by (nat_lt (length r) 8) (is_size (size_of r)) (nat_lt (length r) (size_of r)) (word_of 0 r) (word_of 4 r % 65536) (size_of r)
split_is r = go (nat_lt (length r) 8) (is_size (size_of r)) (nat_lt (length r) (size_of r)) (word_of 0 r) (word_of 4 r % 65536) (size_of r)
  where
    go : (s ok cut : Bool) (o op n : ℕ) → (if s then More else (if ok then (if cut then More else Message o op n) else Bad)) ≡ split_by s ok cut o op n
    go true ok cut o op n = refl
    go false false cut o op n = refl
    go false true true o op n = refl
    go false true false o op n = refl

same_split : (s ok cut s' cut' : Bool) (o op n : ℕ) → split_by s ok cut o op n ≢ More → (s ≡ false → s' ≡ false) → (cut ≡ false → cut' ≡ false) → split_by s' ok cut' o op n ≡ split_by s ok cut o op n
same_split true ok cut s' cut' o op n some h k = absurd (some refl)
same_split false false cut s' cut' o op n some h k = rw (h refl) refl
same_split false true true s' cut' o op n some h k = absurd (some refl)
same_split false true false s' cut' o op n some h k = rw (h refl, k refl) refl

word_of-append : (at : ℕ) (r more : List ℕ) → at + 4 ≤ length r → word_of at (r ++ more) ≡ word_of at r
word_of-append at r more h =
    let a : at ≤ length r = omega arith in
    let b : 4 ≤ length (drop at r) = omega (arith, length-drop at r) in
    rw (drop-append-le at r more a, take-append-le 4 (drop at r) more b) refl

nat_lt-false : (a b k : ℕ) → a ≤ b → nat_lt a k ≡ false → nat_lt b k ≡ false
nat_lt-false a b k h e = grind (arith, nat_tests)

nat_lt-le : (a k : ℕ) → nat_lt a k ≡ false → k ≤ a
nat_lt-le a k e = grind (arith, nat_tests)

not_short : (s ok cut : Bool) (o op n : ℕ) → split_by s ok cut o op n ≢ More → s ≡ false
not_short true ok cut o op n some = absurd (some refl)
not_short false ok cut o op n some = refl

not_cut : (s ok cut : Bool) (o op n a b c : ℕ) → split_by s ok cut o op n ≡ Message a b c → (cut ≡ false) × (n ≡ c)
not_cut false true false o op n a b c e = (refl, cc)
not_cut s ok cut o op n a b c e = absurd (cc)

-- a message stays the first, whatever comes behind
pub split-append : (r more : List ℕ) → split_of r ≢ More → split_of (r ++ more) ≡ split_of r
split-append r more some =
    let some_by = λ (e : split_by (nat_lt (length r) 8) (is_size (size_of r)) (nat_lt (length r) (size_of r)) (word_of 0 r) (word_of 4 r % 65536) (size_of r) ≡ More). some (split_is r ∙ e) in
    let long : 8 ≤ length r = nat_lt-le (length r) 8 (not_short _ _ _ _ _ _ some_by) in
    let longer : length r ≤ length (r ++ more) = omega (arith, length-append r more) in
    let all = r ++ more in
    let by = λ (a b : ℕ). split_by (nat_lt (length all) 8) (is_size (b / 65536)) (nat_lt (length all) (b / 65536)) a (b % 65536) (b / 65536) in
    split_is all
    ∙ ap (λ (a : ℕ). by a (word_of 4 all)) (word_of-append 0 r more (omega arith))
    ∙ ap (λ (b : ℕ). by (word_of 0 r) b) (word_of-append 4 r more (omega arith))
    ∙ same_split _ _ _ (nat_lt (length all) 8) (nat_lt (length all) (size_of r)) _ _ _ some_by (nat_lt-false _ _ 8 longer) (nat_lt-false _ _ (size_of r) longer)
    ∙ sym (split_is r)

pub split-long : (r : List ℕ) → split_of r ≢ More → 8 ≤ length r
split-long r some =
    let some_by = λ (e : split_by (nat_lt (length r) 8) (is_size (size_of r)) (nat_lt (length r) (size_of r)) (word_of 0 r) (word_of 4 r % 65536) (size_of r) ≡ More). some (split_is r ∙ e) in
    nat_lt-le (length r) 8 (not_short _ _ _ _ _ _ some_by)

pub split-within : (r : List ℕ) (a b n : ℕ) → split_of r ≡ Message a b n → n ≤ length r
split-within r a b n e =
    let h = not_cut _ _ _ _ _ _ a b n (sym (split_is r) ∙ e) in
    let k : size_of r ≤ length r = nat_lt-le (length r) (size_of r) h.0 in
    subst (λ (m : ℕ). m ≤ length r) h.1 k
