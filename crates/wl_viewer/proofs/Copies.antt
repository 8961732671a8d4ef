-- Whoever copies an update holds the frame where it tells of it.
use Rattle.std.proofs.Common.{◌≡◌, ◌<◌, ◌≤◌, ◌+◌, ◌-◌, ◌*◌, ℕ, Bool, true, false, List, [], ◌∷◌, refl, ap, ◌∙◌, subst, arith, map, take, drop}
use Rattle.std.specs.Prelude.{◌&&◌, ◌||◌, ◌==◌, fold, if◌then◌else◌, nat_le, nat_lt, slice_index}
use Rattle.std.proofs.lemmas.List.{get_or-drop, get_or-take}
use Rattle.wl_blend.specs.Blend.{color_of}
use Rattle.wl_session.specs.Frame.{Image, color_at}
use Rattle.wl_session.specs.Run.{in_runs}
use Rattle.wl_session.specs.Viewer.{Sight}
use Rattle.wl_session.specs.declared.shots.Run.{Run}
use Rattle.wl_viewer.specs.Copying.{copied_piece}
use Rattle.wl_viewer.specs.Laws.{CopiesHold}
use Rattle.wl_viewer.specs.Telling.{Piece, piece_of, pixels_of}

-- the point is one of the run's
abbrev is_in : ℕ → ℕ → Run → Bool
is_in x y run = (run.y == y) && (nat_le run.x x && nat_lt x (run.x + run.w))

first : (a b : Bool) → (a && b) ≡ true → a ≡ true
first true b e = refl
first false b e = absurd (cc)

second : (a b : Bool) → (a && b) ≡ true → b ≡ true
second true b e = e
second false b e = absurd (cc)

-- a byte of a part is that of the whole
byte-of : (px : List ℕ) (m n i : ℕ) → i < n → slice_index (take n (drop m px)) i ≡ slice_index px (m + i)
byte-of px m n i within = get_or-take n (drop m px) i 0 within ∙ get_or-drop m px i 0

at-byte : (px : List ℕ) (m n i k : ℕ) → i < n → m + i ≡ k → slice_index (take n (drop m px)) i ≡ slice_index px k
at-byte px m n i k within is = byte-of px m n i within ∙ ap (slice_index px) is

-- a pixel of a part is that of the whole
pixel-of : (px : List ℕ) (from w at to : ℕ) → at < w → from + at ≡ to → color_of (take (4 * w) (drop (4 * from) px)) at ≡ color_of px to
pixel-of px from w at to within is =
    let blue = at-byte px (4 * from) (4 * w) (4 * at) (4 * to) (omega (arith, within)) (omega (arith, is)) in
    let green = at-byte px (4 * from) (4 * w) (4 * at + 1) (4 * to + 1) (omega (arith, within)) (omega (arith, is)) in
    let red = at-byte px (4 * from) (4 * w) (4 * at + 2) (4 * to + 2) (omega (arith, within)) (omega (arith, is)) in
    color (take (4 * w) (drop (4 * from) px)) px at to blue green red
  where
    color : (a b : List ℕ) (i j : ℕ) → slice_index a (4 * i) ≡ slice_index b (4 * j) → slice_index a (4 * i + 1) ≡ slice_index b (4 * j + 1)
        → slice_index a (4 * i + 2) ≡ slice_index b (4 * j + 2) → color_of a i ≡ color_of b j
    color a b i j blue green red = rw (blue, green, red) refl

-- in a run's row and columns
in-row : (x y : ℕ) (run : Run) → is_in x y run ≡ true → run.y ≡ y
in-row x y run e = let h = first (run.y == y) (nat_le run.x x && nat_lt x (run.x + run.w)) e in grind (arith, h)

in-start : (x y : ℕ) (run : Run) → is_in x y run ≡ true → run.x ≤ x
in-start x y run e =
    let h = first (nat_le run.x x) (nat_lt x (run.x + run.w)) (second (run.y == y) (nat_le run.x x && nat_lt x (run.x + run.w)) e) in grind (arith, h)

in-end : (x y : ℕ) (run : Run) → is_in x y run ≡ true → x < run.x + run.w
in-end x y run e =
    let h = second (nat_le run.x x) (nat_lt x (run.x + run.w)) (second (run.y == y) (nat_le run.x x && nat_lt x (run.x + run.w)) e) in grind (arith, h)

-- a point of a run gets the frame's colour
in-piece : (frame : Image) (run : Run) (x y : ℕ) → is_in x y run ≡ true → color_of (pixels_of frame run) (x - run.x) ≡ color_at frame x y
in-piece frame run x y e =
    let row = in-row x y run e in
    let start = in-start x y run e in
    let end = in-end x y run e in
    let place : (run.y * frame.width + run.x) + (x - run.x) ≡ y * frame.width + x =
    subst (λ (k : ℕ). (run.y * frame.width + run.x) + (x - run.x) ≡ k * frame.width + x) row (along (run.y * frame.width) run.x x start) in
    pixel-of frame.pixels (run.y * frame.width + run.x) run.w (x - run.x) (y * frame.width + x) (omega (arith, start, end)) place
  where
    along : (a b c : ℕ) → b ≤ c → (a + b) + (c - b) ≡ a + c
    along a b c h = omega (arith, h)

-- what is held after pieces of a frame
copies : (frame : Image) (runs : List Run) (sight : Sight) (x y : ℕ)
    → fold copied_piece sight (map (piece_of frame) runs) x y ≡ (if in_runs runs x y then color_at frame x y else sight x y)
copies frame [] sight x y = refl
copies frame (run ∷ runs) sight x y = at (is_in x y run) refl (in_runs runs x y) (copies frame runs (copied_piece sight (piece_of frame run)) x y)
  where
    at : (b : Bool) → is_in x y run ≡ b → (c : Bool)
        → fold copied_piece (copied_piece sight (piece_of frame run)) (map (piece_of frame) runs) x y ≡ (if c then color_at frame x y else copied_piece sight (piece_of frame run) x y)
        → fold copied_piece (copied_piece sight (piece_of frame run)) (map (piece_of frame) runs) x y ≡ (if is_in x y run || c then color_at frame x y else sight x y)
    at true is true rest = rw is rest
    at false is true rest = rw is rest
    at true is false rest =
        rw is
        (rest ∙ ap (λ (b : Bool). if b then color_of (pixels_of frame run) (x - run.x) else sight x y) is ∙ in-piece frame run x y is)
    at false is false rest = rw is (rest ∙ ap (λ (b : Bool). if b then color_of (pixels_of frame run) (x - run.x) else sight x y) is)

pub copies_hold : CopiesHold
copies_hold untold frame update sight x y wide high tells w h =
    ap (λ (pieces : List Piece). fold copied_piece sight pieces x y) tells.pieces
    ∙ (copies frame tells.runs sight x y
    ∙ ap (λ (b : Bool). if b then color_at frame x y else sight x y) (tells.are.points x y (rw (wide) w) (rw (high) h)))
