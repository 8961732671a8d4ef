-- A wl_pointer among those of its client, in rising id.
use Rattle.std.proofs.Common.{◌≡◌, ℕ, suc, ◌+◌, ◌≤◌, List, [], ◌∷◌, Bool, true, false, Some, None, refl, ap, ◌∙◌, length, arith}
use Rattle.std.specs.Prelude.{cond, nat_lt, not}
use Rattle.std.specs.List.{insert, position, position_or_len, prefix_len}
use Rattle.std.proofs.lemmas.Bool.Decides.{nat_tests}
use Rattle.spec_desktop.specs.Changing.{in_rising_order}

prefix-within : (p : ℕ → Bool) (xs : List ℕ) → prefix_len p xs ≤ length xs
prefix-within p [] = omega arith
prefix-within p (x ∷ xs) = at (p x) (prefix-within p xs)
  where
    at : (b : Bool) → prefix_len p xs ≤ length xs → cond b (1 + prefix_len p xs) 0 ≤ length (x ∷ xs)
    at true less = omega (arith, less)
    at false less = omega arith

none-is : (b : Bool) (n : ℕ) → None ≡ cond b (Some n) None → b ≡ false
none-is true n e = absurd (cc)
none-is false n e = refl

pub place-last : (p : ℕ → Bool) (xs : List ℕ) → None ≡ position p xs → length xs ≡ position_or_len p xs
place-last p xs e =
    let past : nat_lt (position_or_len p xs) (length xs) ≡ false = none-is (nat_lt (position_or_len p xs) (length xs)) (position_or_len p xs) e in
    let beyond : length xs ≤ position_or_len p xs = grind (arith, nat_tests) in
    let within : position_or_len p xs ≤ length xs = prefix-within (λ x. not (p x)) xs in
    omega (arith, beyond, within)

-- put before the first that is greater, it keeps them rising
pub put-rising : (id : ℕ) (xs : List ℕ) → insert xs (position_or_len (λ x. nat_lt id x) xs) id ≡ in_rising_order id xs
put-rising id [] = refl
put-rising id (x ∷ xs) = at (nat_lt id x) (position_or_len (λ y. nat_lt id y) xs) (put-rising id xs)
  where
    at : (b : Bool) (n : ℕ) → insert xs n id ≡ in_rising_order id xs → insert (x ∷ xs) (cond (not b) (1 + n) 0) id ≡ cond b (id ∷ x ∷ xs) (x ∷ in_rising_order id xs)
    at true n e = refl
    at false n e =
        let next : 1 + n ≡ suc n = omega arith in
        ap (λ (k : ℕ). insert (x ∷ xs) k id) next ∙ ap (λ (ys : List ℕ). x ∷ ys) e
