-- The colours of pixels, part by part.
use Rattle.std.proofs.Common.{◌≡◌, ℕ, zero, suc, ◌+◌, ◌*◌, ◌<◌, ◌≤◌, List, [], ◌∷◌, ◌++◌, length, take, drop, get_or, ◌-◌, ◌/◌, refl, ap, sym, ◌∙◌, append_assoc, append-nil, arith, length-set}
use Rattle.std.specs.Prelude.{slice_set}
use Rattle.std.proofs.lemmas.List.{take_more_set, take-take, length-drop, length-take-le, get_or-take, get_or-drop}
use Rattle.std.proofs.lemmas.Simd.{length-chunk, get_or-chunk, pick_l_left, take_more_put_chunk}
use Rattle.std.proofs.Math.Seq.{take-append-add}
use lib.Lanes.{chunk, pick_l, put_chunk}
use Rattle.wl_paint.specs.Image.{colors}

-- three bytes more at the end of a front
pub take-three : (xs : List ℕ) (n a b c : ℕ) → n + 2 < length xs
    → take (n + 3) (slice_set (slice_set (slice_set xs n a) (n + 1) b) (n + 2) c) ≡ take n xs ++ a ∷ b ∷ c ∷ []
take-three xs n a b c h =
    let one : n < length xs = omega arith in
    let two : n + 1 < length (slice_set xs n a) = rw length-set (omega arith) in
    let three : n + 2 < length (slice_set (slice_set xs n a) (n + 1) b) = rw (length-set, length-set) h in
    let first = take_more_set xs n a one in
    let second = take_more_set (slice_set xs n a) (n + 1) b two in
    let third = take_more_set (slice_set (slice_set xs n a) (n + 1) b) (n + 2) c three in
    let e3 : n + 3 ≡ n + 2 + 1 = omega arith in
    let e2 : n + 2 ≡ n + 1 + 1 = omega arith in
    rw e3 (third ∙ ap (λ (t : List ℕ). t ++ c ∷ []) (rw e2 second ∙ ap (λ (t : List ℕ). t ++ b ∷ []) first)
    ∙ append_assoc (take n xs ++ a ∷ []) (b ∷ []) (c ∷ []) ∙ append_assoc (take n xs) (a ∷ []) (b ∷ c ∷ []))

-- a pixel more
pub colors-more : (packed pixels : List ℕ) (i : ℕ) → 3 * i + 2 < length packed → take (3 * i) packed ≡ colors i pixels
    → take (3 * (i + 1)) (slice_set (slice_set (slice_set packed (3 * i) (get_or pixels (4 * i + 2) 0)) (3 * i + 1) (get_or pixels (4 * i + 1) 0)) (3 * i + 2) (get_or pixels (4 * i) 0))
    ≡ colors (i + 1) pixels
colors-more packed pixels i h is =
    let e : 3 * (i + 1) ≡ 3 * i + 3 = omega arith in
    let n : i + 1 ≡ suc i = omega arith in
    rw e (take-three packed (3 * i) _ _ _ h) ∙ ap (λ (t : List ℕ). t ++ get_or pixels (4 * i + 2) 0 ∷ get_or pixels (4 * i + 1) 0 ∷ get_or pixels (4 * i) 0 ∷ []) is
    ∙ ap (λ (k : ℕ). colors k pixels) (sym n)

-- the colours of a front and of what follows it
pub colors-append : (m n : ℕ) (pixels part : List ℕ) → ((k : ℕ) → k < 4 * n → get_or part k 0 ≡ get_or pixels (4 * m + k) 0)
    → colors (m + n) pixels ≡ colors m pixels ++ colors n part
colors-append m zero pixels part h =
    let e : m + 0 ≡ m = omega arith in
    rw (e, append-nil) refl
colors-append m (suc n) pixels part h =
    let e : m + suc n ≡ suc (m + n) = omega arith in
    let at : (j : ℕ) → 4 * (m + n) + j ≡ 4 * m + (4 * n + j) = λ j. omega arith in
    let red : get_or pixels (4 * (m + n) + 2) 0 ≡ get_or part (4 * n + 2) 0 = ap (λ (k : ℕ). get_or pixels k 0) (at 2) ∙ sym (h (4 * n + 2) (omega arith)) in
    let green : get_or pixels (4 * (m + n) + 1) 0 ≡ get_or part (4 * n + 1) 0 = ap (λ (k : ℕ). get_or pixels k 0) (at 1) ∙ sym (h (4 * n + 1) (omega arith)) in
    let there : 4 * (m + n) ≡ 4 * m + 4 * n = omega arith in
    let blue : get_or pixels (4 * (m + n)) 0 ≡ get_or part (4 * n) 0 = ap (λ (k : ℕ). get_or pixels k 0) there ∙ sym (h (4 * n) (omega arith)) in
    rw (e, red, green, blue, colors-append m n pixels part (λ k l. h k (omega arith))) (append_assoc (colors m pixels) (colors n part) _)

-- the colours of the pixels from `done` up to `end` follow those of the pixels before
pub colors-chunk : (done end : ℕ) (pixels : List ℕ) → done ≤ end → 4 * end ≤ length pixels
    → colors end pixels ≡ colors done pixels ++ colors (length (take (4 * end - 4 * done) (drop (4 * done) pixels)) / 4) (take (4 * end - 4 * done) (drop (4 * done) pixels))
colors-chunk done end pixels order within =
    let rest : length (drop (4 * done) pixels) ≡ length pixels - 4 * done = length-drop (4 * done) pixels in
    let long : length (take (4 * end - 4 * done) (drop (4 * done) pixels)) ≡ 4 * end - 4 * done = length-take-le (4 * end - 4 * done) (drop (4 * done) pixels) (omega (arith, rest)) in
    let count : length (take (4 * end - 4 * done) (drop (4 * done) pixels)) / 4 ≡ end - done = omega (arith, long) in
    let all : done + (end - done) ≡ end = omega arith in
    let bytes : 4 * (end - done) ≡ 4 * end - 4 * done = omega arith in
    let joined = colors-append done (end - done) pixels (take (4 * end - 4 * done) (drop (4 * done) pixels)) (λ k h.
    get_or-take (4 * end - 4 * done) (drop (4 * done) pixels) k 0 (omega (arith, bytes, h)) ∙ get_or-drop (4 * done) pixels k 0) in
    ap (λ (n : ℕ). colors n pixels) (sym all) ∙ joined
    ∙ ap (λ (n : ℕ). colors done pixels ++ colors n (take (4 * end - 4 * done) (drop (4 * done) pixels))) (sym count)

-- the places of red, green and blue of four pixels, and of what else they have
abbrev pub color_places : List ℕ
color_places = 2 ∷ 1 ∷ 0 ∷ 6 ∷ 5 ∷ 4 ∷ 10 ∷ 9 ∷ 8 ∷ 14 ∷ 13 ∷ 12 ∷ 3 ∷ 7 ∷ 11 ∷ 15 ∷ []

-- four pixels more
pub colors-four : (packed pixels : List ℕ) (first : ℕ) → 4 * (first + 4) ≤ length pixels → 3 * first + 16 ≤ length packed → take (3 * first) packed ≡ colors first pixels
    → take (3 * (first + 4)) (put_chunk (3 * first) packed (pick_l 0 (chunk (4 * first) 16 pixels ++ chunk (4 * first) 16 pixels) color_places)) ≡ colors (first + 4) pixels
colors-four packed pixels first there room is =
    let four = chunk (4 * first) 16 pixels in
    let some = pick_l 0 four color_places in
    let new = put_chunk (3 * first) packed some in
    let long : length four ≡ 16 = length-chunk (4 * first) 16 pixels (omega arith) in
    let picked : pick_l 0 (four ++ four) color_places ≡ some = pick_l_left 0 four four 16 color_places long tt in
    let whole : take (3 * first + 16) new ≡ take (3 * first) packed ++ some = take_more_put_chunk (3 * first) packed some (3 * first + 16) refl (omega arith) in
    let front : length (take (3 * first) packed) ≡ 3 * first = length-take-le (3 * first) packed (omega arith) in
    let end : 3 * (first + 4) ≡ length (take (3 * first) packed) + 12 = omega (arith, front) in
    rw picked (sym (take-take (3 * (first + 4)) (3 * first + 16) new (omega arith)) ∙ ap (take (3 * (first + 4))) whole
    ∙ ap (λ (n : ℕ). take n (take (3 * first) packed ++ some)) end ∙ take-append-add (take (3 * first) packed) some 12
    ∙ ap (λ (t : List ℕ). t ++ take 12 some) is
    ∙ sym (colors-append first 4 pixels four (λ k h. get_or-chunk (4 * first) 16 pixels k 0 (omega (arith, h)))))
