-- Vectors of sixteen lanes, lane by lane.
use Rattle.std.proofs.Common.{◌≡◌, ℕ, zero, suc, ◌+◌, ◌-◌, ◌*◌, ◌/◌, ◌%◌, ◌^◌, ◌<◌, ◌≤◌, min, List, [], ◌∷◌, ◌++◌, map, length, get_or, Bool, true, false, not, cond, refl, ap, sym, ◌∙◌, eq-eqb, arith}
use Rattle.std.proofs.Common.{w8, bit_or}
use Rattle.std.specs.Prelude.{slice_index, replicate, nat_eq, IsTrue, ◌↔◌}
use Rattle.std.specs.Simd.Lanes.{zip2, pick_l, sel_l, top}
use Rattle.std.proofs.lemmas.Bool.{eqb-true, agree_below_at}
use Rattle.std.proofs.lemmas.Nat.{mul-le, le_or_r, or_of_8, or_shifted}
use Rattle.std.proofs.lemmas.Simd.{get_or-zip2, length-zip2, Each1-get_or, Each1-from_get_or, get_or-replicate, pick_l_left, tops_compared, length-sel_l, get_or-sel_l}
use Rattle.std.proofs.lemmas.Bool.Decides.{nat_tests}
use lib.Dec.{eqb, ltb}
use lib.Lanes.{mask_l}
use Rattle.wl_blend.specs.Lanes.{IsBelow}

pub lane-zip2 : (f : ℕ → ℕ → ℕ) (xs ys : List ℕ) (k : ℕ) → length xs ≡ 16 → length ys ≡ 16 → k < 16
    → slice_index (zip2 f xs ys) k ≡ f (slice_index xs k) (slice_index ys k)
lane-zip2 f xs ys k p q h = get_or-zip2 f xs ys k 0 0 0 (omega arith) (omega arith)

pub count-zip2 : (f : ℕ → ℕ → ℕ) (xs ys : List ℕ) → length xs ≡ 16 → length ys ≡ 16 → length (zip2 f xs ys) ≡ 16
count-zip2 f xs ys p q = omega (arith, length-zip2 f xs ys (omega arith))

pub lane-below : (n : ℕ) (v : List ℕ) (k : ℕ) → IsBelow n v → k < 16 → slice_index v k < n
lane-below n v k b h = Each1-get_or (λ x. x < n) v k 0 (omega (arith, b.count)) b.each

pub IsBelow-from_lanes : (n : ℕ) (v : List ℕ) → length v ≡ 16 → ((k : ℕ) → k < 16 → slice_index v k < n) → IsBelow n v
IsBelow-from_lanes n v e h = record { count = e; each = Each1-from_get_or (λ x. x < n) v 0 (λ i l. h i (omega arith)) }

pub lane-splat : (a k : ℕ) → k < 16 → slice_index (replicate 16 a) k ≡ a
lane-splat a k h = get_or-replicate 16 k a 0 h

-- the product of two bytes
pub product-le : (x y : ℕ) → x < 256 → y < 256 → x * y ≤ 65025
product-le x y p q = mul-le x y 255 255 (omega arith) (omega arith)

-- the lesser of two lanes, as `simd_min` picks it
abbrev pub least : List ℕ → List ℕ → List ℕ
least xs ys = sel_l (map (top 7) (zip2 (λ a b. cond (ltb a b) (2 ^ 8 - 1) 0) xs ys)) xs ys

pub count-least : (xs ys : List ℕ) → length xs ≡ 16 → length ys ≡ 16 → length (least xs ys) ≡ 16
count-least xs ys p q =
    let n : length (zip2 ltb xs ys) ≡ 16 = omega (arith, length-zip2 ltb xs ys (omega arith)) in
    rw (tops_compared w8 ltb xs ys) (omega (arith, length-sel_l (zip2 ltb xs ys) xs ys (omega arith) (omega arith)))

min_is : (x y : ℕ) → cond (ltb x y) x y ≡ min x y
min_is x y = grind arith

pub lane-least : (xs ys : List ℕ) (k : ℕ) → length xs ≡ 16 → length ys ≡ 16 → k < 16
    → slice_index (least xs ys) k ≡ min (slice_index xs k) (slice_index ys k)
lane-least xs ys k p q h =
    let n : length (zip2 ltb xs ys) ≡ 16 = omega (arith, length-zip2 ltb xs ys (omega arith)) in
    rw (
      tops_compared w8 ltb xs ys,
      get_or-sel_l (zip2 ltb xs ys) xs ys k 0 (omega arith) (omega arith) (omega arith),
      get_or-zip2 ltb xs ys k 0 0 false (omega arith) (omega arith),
    ) (min_is (slice_index xs k) (slice_index ys k))

-- the places of the alphas of four pixels
abbrev pub alpha_places : List ℕ
alpha_places = 3 ∷ 3 ∷ 3 ∷ 3 ∷ 7 ∷ 7 ∷ 7 ∷ 7 ∷ 11 ∷ 11 ∷ 11 ∷ 11 ∷ 15 ∷ 15 ∷ 15 ∷ 15 ∷ []

alpha_place : (k : ℕ) → k < 16 → get_or alpha_places k 0 ≡ 4 * (k / 4) + 3
alpha_place k h =
    eqb-true (get_or alpha_places k 0) (4 * (k / 4) + 3)
    (agree_below_at (λ i. eqb (get_or alpha_places i 0) (4 * (i / 4) + 3)) (λ _. true) 16 k refl h)

get_or-map : (f : ℕ → ℕ) (js : List ℕ) (k : ℕ) → k < length js → get_or (map f js) k 0 ≡ f (get_or js k 0)
get_or-map f [] k h = absurd (omega arith)
get_or-map f (j ∷ js) zero h = refl
get_or-map f (j ∷ js) (suc k) h = get_or-map f js k (omega arith)

pub lane-alphas : (xs : List ℕ) (k : ℕ) → length xs ≡ 16 → k < 16
    → slice_index (pick_l 0 (xs ++ xs) alpha_places) k ≡ slice_index xs (4 * (k / 4) + 3)
lane-alphas xs k e h =
    ap (λ v. slice_index v k) (pick_l_left 0 xs xs 16 alpha_places e tt)
    ∙ (get_or-map (λ j. get_or xs j 0) alpha_places k h ∙ ap (λ j. get_or xs j 0) (alpha_place k h))

-- 255 in the fourth byte of each of four pixels
abbrev pub fourths : List ℕ
fourths = 0 ∷ 0 ∷ 0 ∷ 255 ∷ 0 ∷ 0 ∷ 0 ∷ 255 ∷ 0 ∷ 0 ∷ 0 ∷ 255 ∷ 0 ∷ 0 ∷ 0 ∷ 255 ∷ []

fourths_at : (k : ℕ) → k < 16 → get_or fourths k 0 ≡ k % 4 / 3 * 255
fourths_at k h =
    eqb-true (get_or fourths k 0) (k % 4 / 3 * 255)
    (agree_below_at (λ i. eqb (get_or fourths i 0) (i % 4 / 3 * 255)) (λ _. true) 16 k refl h)

or_none : (x : ℕ) → bit_or x 0 ≡ x
or_none x =
    let e : x * 1 ≡ x = omega arith in
    let o : bit_or (x * 1) 0 ≡ x * 1 + 0 = or_shifted x 0 0 (omega arith) in
    rw e at o ∙ omega arith

or_all : (x : ℕ) → x < 256 → bit_or x 255 ≡ 255
or_all x h = omega (arith, le_or_r x 255, or_of_8 x 255 h (omega arith))

pub lane-channel : (v : List ℕ) (p c : ℕ) → length v ≡ 16 → p < 4 → c < 3
    → slice_index (zip2 bit_or v fourths) (4 * p + c) ≡ slice_index v (4 * p + c)
lane-channel v p c e h l =
    let at : 4 * p + c < 16 = omega arith in
    let none : get_or fourths (4 * p + c) 0 ≡ 0 = omega (arith, fourths_at (4 * p + c) at) in
    lane-zip2 bit_or v fourths (4 * p + c) e refl at
    ∙ (ap (λ m. bit_or (slice_index v (4 * p + c)) m) none ∙ or_none (slice_index v (4 * p + c)))

pub lane-fourth : (v : List ℕ) (p : ℕ) → IsBelow 256 v → p < 4 → slice_index (zip2 bit_or v fourths) (4 * p + 3) ≡ 255
lane-fourth v p b h =
    let at : 4 * p + 3 < 16 = omega arith in
    let all : get_or fourths (4 * p + 3) 0 ≡ 255 = omega (arith, fourths_at (4 * p + 3) at) in
    lane-zip2 bit_or v fourths (4 * p + 3) b.count refl at
    ∙ (ap (λ m. bit_or (slice_index v (4 * p + 3)) m) all ∙ or_all (slice_index v (4 * p + 3)) (lane-below 256 v (4 * p + 3) b at))

clear_bit : (b : Bool) (n : ℕ) → cond b 1 0 + 2 * n ≡ 0 → b ≡ false
clear_bit b n e = grind arith

-- no bit of a mask is set where no lane passes the test
mask_l-none : (p : ℕ → Bool) (xs : List ℕ) → ((k : ℕ) → k < length xs → p (get_or xs k 0) ≡ false) → mask_l (map p xs) ≡ 0
mask_l-none p [] none = refl
mask_l-none p (x ∷ xs) none =
    rw (none 0 (omega arith), mask_l-none p xs (λ k h. none (suc k) (omega arith))) refl

none-mask_l : (p : ℕ → Bool) (xs : List ℕ) → mask_l (map p xs) ≡ 0 → (k : ℕ) → k < length xs → p (get_or xs k 0) ≡ false
none-mask_l p [] e k h = absurd (omega arith)
none-mask_l p (x ∷ xs) e zero h = clear_bit (p x) (mask_l (map p xs)) e
none-mask_l p (x ∷ xs) e (suc k) h = none-mask_l p xs (omega arith) k (omega arith)

same_lane : (x v : ℕ) → not (nat_eq x v) ≡ false → x ≡ v
same_lane x v e = grind (arith, nat_tests)

lane_same : (x v : ℕ) → x ≡ v → not (nat_eq x v) ≡ false
lane_same x v e = grind (arith, nat_tests)

pub each_by_mask : (xs : List ℕ) (v m : ℕ) → length xs ≡ 16 → m ≡ mask_l (map (λ x. not (nat_eq x v)) xs)
    → IsTrue (nat_eq m 0) ↔ ((k : ℕ) → k < 16 → slice_index xs k ≡ v)
each_by_mask xs v m long is = (
  λ t k h. same_lane _ v (none-mask_l (λ x. not (nat_eq x v)) xs (sym is ∙ eqb-true m 0 t) k (omega arith)),
  λ all. eq-eqb m 0 (is ∙ mask_l-none (λ x. not (nat_eq x v)) xs (λ k h. lane_same _ v (all k (omega arith)))),
)
