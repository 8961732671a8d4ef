-- Pixels of one colour, one after the other.
use Rattle.std.proofs.Common.{◌≡◌, ℕ, zero, suc, ◌+◌, ◌-◌, ◌*◌, ◌<◌, ◌≤◌, List, [], ◌∷◌, ◌++◌, length, get_or, append_assoc, refl, ap, ◌∙◌, arith, inl, inr}
use Rattle.std.specs.Prelude.{◌⊎◌}
use Rattle.std.proofs.lemmas.Simd.{get_or-put_chunk_at, get_or-put_chunk_below, get_or-put_chunk_above}
use lib.Lanes.{put_chunk}
use Rattle.wl_blend.specs.declared.color.Rgb.{Rgb}
use Rattle.wl_paint.specs.Frame.{filled, pixel_bytes}
use Rattle.wl_paint.specs.Painting.{opaque, pixel_of}
use Rattle.wl_paint.proofs.Parts.{pixel-same}

pub filled-more : (was now new : List ℕ) (n : ℕ) (color : Rgb) → now ≡ was ++ filled n color → new ≡ now ++ pixel_bytes color → new ≡ was ++ filled (n + 1) color
filled-more was now new n color e q =
    let next : suc n ≡ n + 1 = omega arith in
    q ∙ ap (λ (u : List ℕ). u ++ pixel_bytes color) e ∙ append_assoc was (filled n color) (pixel_bytes color) ∙ ap (λ (m : ℕ). was ++ filled m color) next

-- the bytes of four of them
abbrev pub four_bytes : Rgb → List ℕ
four_bytes color =
    color.b ∷ color.g ∷ color.r ∷ 255 ∷ color.b ∷ color.g ∷ color.r ∷ 255
    ∷ color.b ∷ color.g ∷ color.r ∷ 255 ∷ color.b ∷ color.g ∷ color.r ∷ 255 ∷ []

pixel-four : (color : Rgb) (k : ℕ) → k < 4 → pixel_of (four_bytes color) k ≡ opaque color
pixel-four color zero h = refl
pixel-four color (suc zero) h = refl
pixel-four color (suc (suc zero)) h = refl
pixel-four color (suc (suc (suc zero))) h = refl
pixel-four color (suc (suc (suc (suc k)))) h = absurd (omega arith)

-- four pixels that were written into a run
pub four-written : (run : List ℕ) (first k : ℕ) (color : Rgb) → 4 * (first + 4) ≤ length run → first ≤ k → k < first + 4
    → pixel_of (put_chunk (4 * first) run (four_bytes color)) k ≡ opaque color
four-written run first k color room from to =
    let new = put_chunk (4 * first) run (four_bytes color) in
    pixel-same new (four_bytes color) k (k - first) (λ b small.
    (let place : 4 * k + b ≡ 4 * first + (4 * (k - first) + b) = omega arith in
    ap (λ (u : ℕ). get_or new u 0) place ∙ get_or-put_chunk_at (4 * first) run (four_bytes color) (4 * (k - first) + b) 0 (omega arith) (omega arith)))
    ∙ pixel-four color (k - first) (omega arith)

-- and the others
pub four-others : (run : List ℕ) (first k : ℕ) (color : Rgb) → (k < first) ⊎ (first + 4 ≤ k)
    → pixel_of (put_chunk (4 * first) run (four_bytes color)) k ≡ pixel_of run k
four-others run first k color (inl before) =
    pixel-same (put_chunk (4 * first) run (four_bytes color)) run k k (λ b small. get_or-put_chunk_below (4 * first) run (four_bytes color) (4 * k + b) 0 (omega arith))
four-others run first k color (inr after) =
    pixel-same (put_chunk (4 * first) run (four_bytes color)) run k k (λ b small. get_or-put_chunk_above (4 * first) run (four_bytes color) (4 * k + b) 0 (omega arith))
