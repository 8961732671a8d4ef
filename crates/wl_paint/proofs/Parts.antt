-- A part of a run of pixels, lent and put back.
use Rattle.std.proofs.Common.{◌≡◌, ℕ, ◌+◌, ◌*◌, ◌-◌, ◌<◌, ◌≤◌, List, length, take, drop, get_or, ap, ◌∙◌, arith, refl, rules, inl, inr, length-drop}
use Rattle.std.specs.Prelude.{◌⊎◌}
use Rattle.std.proofs.lemmas.List.{get_or-take, get_or-drop, length-take-le, places}
use borrow.Rule.Slice.PartMut.{put_mid}
use Rattle.wl_blend.specs.Blend.{color_of}
use Rattle.wl_paint.specs.Painting.{pixel_of}

-- ---- bytes

byte_inside : (a n j : ℕ) (xs ys : List ℕ) → a + n ≤ length xs → length ys ≡ n → j < n → get_or (put_mid a n xs ys) (a + j) 0 ≡ get_or ys j 0
byte_inside a n j xs ys h l i = search (rules, places)

byte_before : (a n k : ℕ) (xs ys : List ℕ) → a + n ≤ length xs → length ys ≡ n → k < a → get_or (put_mid a n xs ys) k 0 ≡ get_or xs k 0
byte_before a n k xs ys h l b = search (rules, places)

byte_after : (a n k : ℕ) (xs ys : List ℕ) → a + n ≤ length xs → length ys ≡ n → a + n ≤ k → get_or (put_mid a n xs ys) k 0 ≡ get_or xs k 0
byte_after a n k xs ys h l b = search (rules, places)

-- ---- pixels

pub pixel-same : (xs ys : List ℕ) (k l : ℕ) → ((b : ℕ) → b < 4 → get_or xs (4 * k + b) 0 ≡ get_or ys (4 * l + b) 0) → pixel_of xs k ≡ pixel_of ys l
pixel-same xs ys k l same =
    let left : 4 * k + 0 ≡ 4 * k = omega arith in
    let right : 4 * l + 0 ≡ 4 * l = omega arith in
    let first : get_or xs (4 * k) 0 ≡ get_or ys (4 * l) 0 = rw (← left, ← right) (same 0 (omega arith)) in
    rw (first, same 1 (omega arith), same 2 (omega arith), same 3 (omega arith)) refl

-- how many bytes the part has
pub length-part : (xs : List ℕ) (first count : ℕ) → 4 * (first + count) ≤ length xs → length (take (4 * (first + count) - 4 * first) (drop (4 * first) xs)) ≡ 4 * count
length-part xs first count h =
    length-take-le (4 * (first + count) - 4 * first) (drop (4 * first) xs) (omega (arith, length-drop (4 * first) xs)) ∙ omega arith

-- a pixel of the part
pub part-inside : (xs ys : List ℕ) (first count i : ℕ) → 4 * (first + count) ≤ length xs → length ys ≡ length (take (4 * (first + count) - 4 * first) (drop (4 * first) xs)) → i < count
    → pixel_of (put_mid (4 * first) (4 * (first + count) - 4 * first) xs ys) (first + i) ≡ pixel_of ys i
part-inside xs ys first count i h l in_part =
    let n = 4 * (first + count) - 4 * first in
    let all = put_mid (4 * first) n xs ys in
    let long = l ∙ length-part xs first count h in
    pixel-same all ys (first + i) i (λ b small.
    (let place : 4 * (first + i) + b ≡ 4 * first + (4 * i + b) = omega arith in
    ap (λ (u : ℕ). get_or all u 0) place ∙ byte_inside (4 * first) n (4 * i + b) xs ys (omega arith) (omega (arith, long)) (omega (arith, small))))

-- the others
pub part-outside : (xs ys : List ℕ) (first count k : ℕ) → 4 * (first + count) ≤ length xs → length ys ≡ length (take (4 * (first + count) - 4 * first) (drop (4 * first) xs))
    → (k < first) ⊎ (first + count ≤ k) → pixel_of (put_mid (4 * first) (4 * (first + count) - 4 * first) xs ys) k ≡ pixel_of xs k
part-outside xs ys first count k h l (inl before) =
    let n = 4 * (first + count) - 4 * first in
    let long = l ∙ length-part xs first count h in
    pixel-same (put_mid (4 * first) n xs ys) xs k k (λ b small. byte_before (4 * first) n (4 * k + b) xs ys (omega arith) (omega (arith, long)) (omega (arith, small)))
part-outside xs ys first count k h l (inr after) =
    let n = 4 * (first + count) - 4 * first in
    let long = l ∙ length-part xs first count h in
    pixel-same (put_mid (4 * first) n xs ys) xs k k (λ b small. byte_after (4 * first) n (4 * k + b) xs ys (omega arith) (omega (arith, long)) (omega (arith, small)))

-- the pixel that it had
pub part-pixel : (xs : List ℕ) (first count i : ℕ) → i < count → pixel_of (take (4 * (first + count) - 4 * first) (drop (4 * first) xs)) i ≡ pixel_of xs (first + i)
part-pixel xs first count i in_part =
    let n = 4 * (first + count) - 4 * first in
    let part = take n (drop (4 * first) xs) in
    pixel-same part xs i (first + i) (λ b small.
    (let place : 4 * first + (4 * i + b) ≡ 4 * (first + i) + b = omega arith in
    get_or-take n (drop (4 * first) xs) (4 * i + b) 0 (omega (arith, small)) ∙ get_or-drop (4 * first) xs (4 * i + b) 0 ∙ ap (λ (u : ℕ). get_or xs u 0) place))

-- the colour that it had
pub part-color : (xs : List ℕ) (first count i : ℕ) → i < count → color_of (take (4 * (first + count) - 4 * first) (drop (4 * first) xs)) i ≡ color_of xs (first + i)
part-color xs first count i in_part = ap (λ p. p.0) (part-pixel xs first count i in_part)
