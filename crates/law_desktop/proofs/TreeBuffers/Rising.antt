-- Numbers in rising order: those that are put in one after another.
use Rattle.std.proofs.Common.{◌≡◌, ℕ, ◌<◌, suc, List, [], ◌∷◌, Bool, true, false, cond, length, refl, ap, sym, ◌∙◌, arith}
use Rattle.std.proofs.lemmas.Bool.{eqb-false, eqb-true, ltb-false, ltb-true, ne_eqb}
use Rattle.std.proofs.lemmas.List.Kept.{AllPairs-from_increasing}
use Rattle.std.specs.List.Sorted.{IsStrictlyIncreasing}
use Rattle.std.specs.List.{AllPairs}
use Rattle.std.specs.Prelude.{◌==◌, ◌||◌, fold, nat_lt, slice_index_or}
use Rattle.wl_shell.specs.Popups.{is_among}
use Rattle.spec_desktop.specs.Changing.{in_rising_order}
use Rattle.law_desktop.proofs.Marks.Stacks.{same-number}
use Rattle.law_desktop.proofs.Truth.{differ, or-swapped}
use Rattle.law_desktop.proofs.Lists.Each.{Each, each-both, each-map}

-- ---- rising numbers

abbrev pub Rising : List ℕ → Type 0
Rising [] = Unit {0}
Rising (n ∷ ns) = Each (λ m. n < m) ns × Rising ns

each-at : (P : ℕ → Type 0) (ns : List ℕ) → ((k d : ℕ) → k < length ns → P (slice_index_or ns k d)) → Each P ns
each-at P [] f = tt
each-at P (n ∷ ns) f = (f 0 0 (omega arith), each-at P ns (λ k d h. f (suc k) d (omega arith)))

from-pairs : (ns : List ℕ) → AllPairs (λ n m. n < m) ns → Rising ns
from-pairs [] pairs = tt
from-pairs (n ∷ ns) pairs = (
  each-at (λ m. n < m) ns (λ k d h. pairs 0 (suc k) d (omega arith) (omega arith)),
  from-pairs ns (λ i j d h g. pairs (suc i) (suc j) d (omega arith) (omega arith)),
)

pub rising-of : (ns : List ℕ) → IsStrictlyIncreasing ns → Rising ns
rising-of ns rises = from-pairs ns (AllPairs-from_increasing ns rises)

not-above : (n : ℕ) (ms : List ℕ) → Each (λ m. n < m) ms → is_among n ms ≡ false
not-above n [] above = refl
not-above n (m ∷ ms) above =
    let more : n < m = above.0 in
    ap (λ b. b || is_among n ms) (ne_eqb m n (λ e. absurd (omega (arith, e)))) ∙ not-above n ms above.1

is-above : (low n : ℕ) (ms : List ℕ) → Each (λ m. low < m) ms → is_among n ms ≡ true → low < n
is-above low n [] above any = absurd (cc)
is-above low n (m ∷ ms) above any = at (m == n) refl any (is-above low n ms above.1)
  where
    at : (b : Bool) → (m == n) ≡ b → (b || is_among n ms) ≡ true → (is_among n ms ≡ true → low < n) → low < n
    at true e any later =
        let same : m ≡ n = eqb-true m n e in
        let more : low < m = above.0 in
        omega arith
    at false e any later = later any

first-among : (m : ℕ) (ms : List ℕ) → is_among m (m ∷ ms) ≡ true
first-among m ms = ap (λ b. b || is_among m ms) (same-number m)

at-first : (n m : ℕ) (ms : List ℕ) → Each (λ k. m < k) ms → is_among n (m ∷ ms) ≡ true → (n < m → ⊥)
at-first n m ms above any less = at (m == n) refl any
  where
    at : (b : Bool) → (m == n) ≡ b → (b || is_among n ms) ≡ true → ⊥
    at true e any = let same : m ≡ n = eqb-true m n e in absurd (omega arith)
    at false e any = let more : m < n = is-above m n ms above any in absurd (omega arith)

-- two lists that rise and have the same numbers are the same
pub same-rising : (ns ms : List ℕ) → Rising ns → Rising ms → ((n : ℕ) → is_among n ns ≡ is_among n ms) → ns ≡ ms
same-rising [] [] a b same = refl
same-rising [] (m ∷ ms) a b same = absurd (differ (same m ∙ first-among m ms))
same-rising (n ∷ ns) [] a b same = absurd (differ (sym (same n) ∙ first-among n ns))
same-rising (n ∷ ns) (m ∷ ms) a b same = ap (λ k. k ∷ ns) first ∙ ap (λ ks. m ∷ ks) (same-rising ns ms a.1 b.1 left)
  where
    first : n ≡ m
    first =
        let one : n < m → ⊥ = at-first n m ms b.0 (sym (same n) ∙ first-among n ns) in
        let other : m < n → ⊥ = at-first m n ns a.0 (same m ∙ first-among m ms) in
        omega (arith, one, other)

    left : (k : ℕ) → is_among k ns ≡ is_among k ms
    left k = at (n == k) refl (same k)
      where
        at : (c : Bool) → (n == k) ≡ c → (c || is_among k ns) ≡ is_among k (m ∷ ms) → is_among k ns ≡ is_among k ms
        at true e rest =
            let here : n ≡ k = eqb-true n k e in
            ap (λ j. is_among j ns) (sym here) ∙ not-above n ns a.0
            ∙ sym (ap (λ j. is_among j ms) (sym here ∙ first) ∙ not-above m ms b.0)
        at false e rest = rest ∙ ap (λ c. c || is_among k ms) (ap (λ j. j == k) (sym first) ∙ e)

-- ---- one more is put in

pub put-among : (n k : ℕ) (ms : List ℕ) → is_among k (in_rising_order n ms) ≡ ((n == k) || is_among k ms)
put-among n k [] = refl
put-among n k (m ∷ ms) = at (nat_lt n m) (put-among n k ms)
  where
    at : (b : Bool) → is_among k (in_rising_order n ms) ≡ ((n == k) || is_among k ms)
        → is_among k (cond b (n ∷ m ∷ ms) (m ∷ in_rising_order n ms)) ≡ ((n == k) || ((m == k) || is_among k ms))
    at true later = refl
    at false later = ap (λ c. (m == k) || c) later ∙ or-swapped (m == k) (n == k) (is_among k ms)

put-above : (low n : ℕ) (ms : List ℕ) → low < n → Each (λ m. low < m) ms → Each (λ m. low < m) (in_rising_order n ms)
put-above low n [] less above = (less, tt)
put-above low n (m ∷ ms) less above = at (nat_lt n m) (put-above low n ms less above.1)
  where
    at : (b : Bool) → Each (λ m. low < m) (in_rising_order n ms) → Each (λ m. low < m) (cond b (n ∷ m ∷ ms) (m ∷ in_rising_order n ms))
    at true later = (less, above)
    at false later = (above.0, later)

pub put-rising : (n : ℕ) (ms : List ℕ) → is_among n ms ≡ false → Rising ms → Rising (in_rising_order n ms)
put-rising n [] new rises = (tt, tt)
put-rising n (m ∷ ms) new rises = at (nat_lt n m) refl (m == n) refl new (λ e. put-rising n ms e rises.1)
  where
    at : (b : Bool) → nat_lt n m ≡ b → (c : Bool) → (m == n) ≡ c → (c || is_among n ms) ≡ false
        → (is_among n ms ≡ false → Rising (in_rising_order n ms)) → Rising (cond b (n ∷ m ∷ ms) (m ∷ in_rising_order n ms))
    at true e c f new later =
        let less : n < m = ltb-true n m e in
        ((less, each-map (λ k. m < k) (λ k. n < k) (λ k h. omega arith) ms rises.0), rises)
    at false e true f new later = absurd (differ (sym new))
    at false e false f new later =
        let more : m < n = above e f in
        (put-above m n ms more rises.0, later new)
      where
        above : nat_lt n m ≡ false → (m == n) ≡ false → m < n
        above e f =
            let within = ltb-false n m e in
            let apart : m ≡ n → ⊥ = eqb-false m n f in
            omega (arith, within, apart)

-- ---- several are put in

abbrev pub all_put : List ℕ → List ℕ → List ℕ
all_put into ns = fold (λ ms n. in_rising_order n ms) into ns

-- no two are the same
abbrev pub Differ : List ℕ → Type 0
Differ [] = Unit {0}
Differ (n ∷ ns) = Each (λ m. (n == m) ≡ false) ns × Differ ns

pub all-rising : (ns into : List ℕ) → Rising into → Each (λ n. is_among n into ≡ false) ns → Differ ns → Rising (all_put into ns)
all-rising [] into rises new apart = rises
all-rising (n ∷ ns) into rises new apart =
    all-rising ns (in_rising_order n into) (put-rising n into new.0 rises)
    (each-both (λ m. (n == m) ≡ false) (λ m. is_among m into ≡ false) (λ m. is_among m (in_rising_order n into) ≡ false)
    (λ m other fresh. put-among n m into ∙ ap (λ b. b || is_among m into) other ∙ fresh) ns apart.0 new.1)
    apart.1

or-move : (a b c : Bool) → ((a || b) || c) ≡ (b || (a || c))
or-move true true c = refl
or-move true false c = refl
or-move false b c = refl

pub all-among : (k : ℕ) (ns into : List ℕ) → is_among k (all_put into ns) ≡ (is_among k into || is_among k ns)
all-among k [] into = at (is_among k into)
  where
    at : (b : Bool) → b ≡ (b || false)
    at true = refl
    at false = refl
all-among k (n ∷ ns) into =
    all-among k ns (in_rising_order n into)
    ∙ ap (λ b. b || is_among k ns) (put-among n k into)
    ∙ or-move (n == k) (is_among k into) (is_among k ns)
