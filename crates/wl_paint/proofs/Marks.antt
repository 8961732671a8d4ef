-- Counts of the numbers and points that pass a test.
use Rattle.std.proofs.Common.{◌≡◌, ℕ, zero, suc, ◌<◌, ◌≤◌, ◌+◌, Bool, true, false, List, length, get_or, refl, ap, ◌∙◌, arith, inl, inr, []}
use Rattle.std.specs.Prelude.{if◌then◌else◌}
use Rattle.std.proofs.lemmas.Bool.{cases_Bool, cases_lt}
use Rattle.std.proofs.lemmas.List.{get_or_default}
use Rattle.wl_paint.specs.Damage.{Damaged, IsDamage, marked, has, count_below}

-- what one number adds to a count
one-true : (b : Bool) → b ≡ true → ◌≡◌ {A = ℕ} (if b then 1 else 0) 1
one-true b e = rw e refl

one-false : (b : Bool) → b ≡ false → ◌≡◌ {A = ℕ} (if b then 1 else 0) 0
one-false b e = rw e refl

one-le : (b : Bool) → (if b then 1 else 0) ≤ 1
one-le b = elim (cases_Bool b) [ inl e ↦ omega (arith, one-true b e) | inr e ↦ omega (arith, one-false b e) ]

pub count_below-le : (n : ℕ) (p : ℕ → Bool) → count_below n p ≤ n
count_below-le zero p = omega arith
count_below-le (suc n) p = omega (arith, one-le (p n), count_below-le n p)

pub count_below-empty : (n : ℕ) (p : ℕ → Bool) → ((k : ℕ) → p k ≡ false) → count_below n p ≡ 0
count_below-empty zero p h = refl
count_below-empty (suc n) p h = omega (arith, one-false (p n) (h n), count_below-empty n p h)

-- where none was counted, none passes
pub none_below : (n : ℕ) (p : ℕ → Bool) → count_below n p ≡ 0 → (k : ℕ) → k < n → p k ≡ false
none_below zero p h k l = absurd (omega arith)
none_below (suc n) p h k l =
    elim (cases_Bool (p n)) [
      | inl e ↦ absurd (omega (arith, one-true (p n) e))
      | inr e ↦ elim (cases_lt k n) [
        | inl below ↦ none_below n p (omega (arith, one-false (p n) e)) k below
        | inr last ↦ (let same : k ≡ n = omega arith in rw same e)
      ]
    ]

-- the count of a row that was read, as that of the points of its row
pub count_below-row : (damage : Damaged) (y : ℕ) (row : List Bool) → IsDamage damage → y < damage.height → row ≡ get_or damage.rows y row
    → count_below (length row) (marked row) ≡ count_below damage.width (λ x. has damage x y)
count_below-row damage y row is h read =
    let within : y < length damage.rows = omega (arith, is.sized) in
    let same : row ≡ get_or damage.rows y [] = read ∙ get_or_default damage.rows y row [] within in
    let wide : length row ≡ damage.width = ap length same ∙ is.each_wide y h in
    rw (wide, same) refl

-- the same test of each number, the same count
pub count_below-same : (n : ℕ) (p q : ℕ → Bool) → ((k : ℕ) → k < n → q k ≡ p k) → count_below n q ≡ count_below n p
count_below-same zero p q h = refl
count_below-same (suc n) p q h =
    let first : ◌≡◌ {A = ℕ} (if q n then 1 else 0) (if p n then 1 else 0) = ap (λ (b : Bool). if b then 1 else 0) (h n (omega arith)) in
    omega (arith, first, count_below-same n p q (λ k l. h k (omega arith)))

-- what passes the one test passes the other
pub count_below-grow : (n : ℕ) (p q : ℕ → Bool) → ((k : ℕ) → k < n → p k ≡ true → q k ≡ true) → count_below n p ≤ count_below n q
count_below-grow zero p q h = omega arith
count_below-grow (suc n) p q h =
    let rest = count_below-grow n p q (λ k l. h k (omega arith)) in
    elim (cases_Bool (p n)) [
      | inl e ↦ omega (arith, one-true (p n) e, one-true (q n) (h n (omega arith) e), rest)
      | inr e ↦ omega (arith, one-false (p n) e, rest)
    ]

-- the first n numbers, and then m more
pub count_below-add : (n m : ℕ) (p : ℕ → Bool) → count_below (n + m) p ≡ count_below m (λ i. p (n + i)) + count_below n p
count_below-add n zero p =
    let e : n + 0 ≡ n = omega arith in
    rw e (omega arith)
count_below-add n (suc m) p =
    let e : n + suc m ≡ suc (n + m) = omega arith in
    rw (e, count_below-add n m p) (omega arith)
