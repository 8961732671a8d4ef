-- Windows laid over a run, one after the other.
use Rattle.std.proofs.Common.{◌≡◌, ℕ, ◌+◌, ◌-◌, ◌*◌, ◌<◌, ◌≤◌, ℤ, pos, ◌-ℤ◌, Bool, ◌&&◌, true, false, List, take, refl, sym, ◌∙◌, ap, arith, inl, inr}
use Rattle.std.specs.Prelude.{slice_get, slice_index, Some, unsigned_abs, ◌/◌, ◌⊎◌, cond, ◌^◌}
use Rattle.std.proofs.lemmas.Bool.{cases_lt}
use Rattle.std.proofs.lemmas.Bool.Decides.{nat_tests}
use Rattle.std.proofs.lemmas.Int.{ints}
use Rattle.std.proofs.Math.Nat.{div-le_self}
use Rattle.std.proofs.lemmas.Option.{slice_get_within, get_or_from_slice_get}
use Rattle.std.proofs.lemmas.List.Sums.{fold_more}
use Rattle.wl_blend.specs.declared.color.Rgb.{Rgb}
use Rattle.wl_blend.specs.Blend.{blended, color_of}
use Rattle.wl_geom.specs.Rect.{in_span}
use Rattle.wl_geom.specs.Region.{holds}
use Rattle.wl_store.specs.Transform.{is_turned}
use Rattle.wl_store.specs.Picture.{Shown, color_at, surface_height, surface_width}
use Rattle.wl_paint.specs.Damage.{is_between}
use Rattle.wl_paint.specs.Painting.{Shows, opaque, pixel_of}
use Rattle.wl_paint.specs.Window.{AreOpaqueAsSaid, HasAlphaAsSaid, Window, in_window, is_said_opaque, over, scratch}
use Rattle.wl_paint.proofs.Shown.{Shows-always, Shows-more}
use Rattle.wl_paint.proofs.Clips.{between_none, offset_within, part_offset}

pub scratch-more : (background : Rgb) (windows : List Window) (k : ℕ) (w : Window) (x y : ℤ) → slice_get windows k ≡ Some w
    → scratch background (take (k + 1) windows) x y ≡ over x y (scratch background (take k windows) x y) w
scratch-more background windows k w x y e =
    fold_more (over x y) background windows k w (slice_get_within windows k w e)
    ∙ ap (over x y (scratch background (take k windows) x y)) (get_or_from_slice_get windows k w w e)

-- a pixel that stays has its colour still
pub kept_pixel : (run : List ℕ) (i : ℕ) (color : Rgb) → slice_index run (4 * i + 3) ≡ 255 → color ≡ color_of run i → pixel_of run i ≡ opaque color
kept_pixel run i color fourth same = rw (fourth, same) refl

-- a window lets be what is beside it
pub over-beside : (x y : ℤ) (under : Rgb) (w : Window) → in_span w.x (pos (surface_width w.picture)) x ≡ false → over x y under w ≡ under
over-beside x y under w e = rw e refl

and-false : (a : Bool) → (a && false) ≡ false
and-false true = refl
and-false false = refl

-- and what is above or below it
pub over-above : (x y : ℤ) (under : Rgb) (w : Window) → in_span w.y (pos (surface_height w.picture)) y ≡ false → over x y under w ≡ under
over-above x y under w e = rw (e, and-false (in_span w.x (pos (surface_width w.picture)) x)) refl

over-inside : (x y : ℤ) (under : Rgb) (w : Window) (i j : ℕ) → in_span w.x (pos (surface_width w.picture)) x ≡ true
    → in_span w.y (pos (surface_height w.picture)) y ≡ true → unsigned_abs (x -ℤ w.x) ≡ i → unsigned_abs (y -ℤ w.y) ≡ j
    → over x y under w ≡ blended under (color_at w.picture i j)
over-inside x y under w i j column row right down = rw (column, row, right, down) refl

-- a run over which the window is laid, of which the pixels from `first` up to `end` lie in the window
pub laid_pixel : (run now : List ℕ) (w : Window) (x y first end count i j : ℕ)
    → ((k : ℕ) → k < count → in_span w.x (pos (surface_width w.picture)) (pos (x + k)) ≡ is_between first end k)
    → first ≤ end → i ≡ unsigned_abs (pos (x + first) -ℤ w.x)
    → in_span w.x (pos (surface_width w.picture)) (pos (x + first)) ≡ true
    → in_span w.y (pos (surface_height w.picture)) (pos y) ≡ true → j ≡ unsigned_abs (pos y -ℤ w.y)
    → ((k : ℕ) → k < end - first → pixel_of now (first + k) ≡ opaque (blended (color_of run (first + k)) (color_at w.picture (i + k) j)))
    → ((k : ℕ) → (k < first) ⊎ (first + (end - first) ≤ k) → pixel_of now k ≡ pixel_of run k)
    → (k : ℕ) → k < count → slice_index run (4 * k + 3) ≡ 255 → pixel_of now k ≡ opaque (over (pos (x + k)) (pos y) (color_of run k) w)
laid_pixel run now w x y first end count i j same order is column row down inside outside k h fourth =
    let beside : (k < first) ⊎ (end ≤ k) → pixel_of now k ≡ opaque (over (pos (x + k)) (pos y) (color_of run k) w) = λ out.
    outside k (elim out [ inl l ↦ inl l | inr g ↦ inr (omega arith) ])
    ∙ kept_pixel run k _ fourth (over-beside (pos (x + k)) (pos y) (color_of run k) w (same k h ∙ between_none first end k out)) in
    elim (cases_lt k first) [
      | inl l ↦ beside (inl l)
      | inr g ↦ elim (cases_lt k end) [
        | inl to ↦ (
            let at : first + (k - first) ≡ k = omega arith in
            let place = part_offset w.x (surface_width w.picture) x i first end count same is column k h g to in
            let shown = over-inside (pos (x + k)) (pos y) (color_of run k) w (i + (k - first)) j place.0 row place.1 (sym down) in
            let e = inside (k - first) (omega arith) in
            (rw at at e) ∙ ap opaque (sym shown))
        | inr past ↦ beside (inr past)
      ]
    ]

-- a pixel that shows the window's point whatever is below it
pub hidden_pixel : (pixel : Rgb × ℕ) (promised : Type 0) (w : Window) (x y i j k : ℕ) (under : Rgb)
    → in_span w.x (pos (surface_width w.picture)) (pos x) ≡ true → i ≡ unsigned_abs (pos x -ℤ w.x)
    → in_span w.y (pos (surface_height w.picture)) (pos y) ≡ true → j ≡ unsigned_abs (pos y -ℤ w.y)
    → i + k < surface_width w.picture
    → pixel ≡ opaque (blended under (color_at w.picture (i + k) j)) → Shows promised (over (pos (x + k)) (pos y) under w) pixel
hidden_pixel pixel promised w x y i j k under column is row down small e =
    let place = offset_within w.x (surface_width w.picture) x i k column is small in
    Shows-always promised _ pixel (e ∙ ap opaque (sym (over-inside (pos (x + k)) (pos y) under w (i + k) j place.0 row place.1 (sym down))))

-- in a span a place is as far from the start as it is counted
distance-in : (start : ℤ) (len at n : ℕ) → in_span start (pos len) (pos at) ≡ true → unsigned_abs (pos at -ℤ start) ≡ n → pos at -ℤ start ≡ pos n
distance-in start len at n inside e = grind (arith, ints, nat_tests)

-- a point that the opaque region holds has the alpha that was promised
promised-alpha : (w : Window) (x y i j : ℕ)
    → in_span w.x (pos (surface_width w.picture)) (pos x) ≡ true → unsigned_abs (pos x -ℤ w.x) ≡ i
    → in_span w.y (pos (surface_height w.picture)) (pos y) ≡ true → unsigned_abs (pos y -ℤ w.y) ≡ j
    → holds (pos i) (pos j) w.opaque.made ≡ true → HasAlphaAsSaid (pos x) (pos y) w → (color_at w.picture i j).a ≡ 255
promised-alpha w x y i j column right row down held promise =
    let there : (in_window (pos x) (pos y) w && is_said_opaque (pos x) (pos y) w) ≡ true
    = rw (column, row, distance-in w.x _ x i column right, distance-in w.y _ y j row down) held in
    rw (right, down) at (promise there)

-- a pixel that shows the window's point where that is as opaque as was said
pub said_pixel : (pixel : Rgb × ℕ) (w : Window) (x y i j k : ℕ) (under : Rgb)
    → in_span w.x (pos (surface_width w.picture)) (pos x) ≡ true → i ≡ unsigned_abs (pos x -ℤ w.x)
    → in_span w.y (pos (surface_height w.picture)) (pos y) ≡ true → j ≡ unsigned_abs (pos y -ℤ w.y)
    → i + k < surface_width w.picture → holds (pos (i + k)) (pos j) w.opaque.made ≡ true
    → Shows ((color_at w.picture (i + k) j).a ≡ 255) (blended under (color_at w.picture (i + k) j)) pixel
    → Shows (HasAlphaAsSaid (pos (x + k)) (pos y) w) (over (pos (x + k)) (pos y) under w) pixel
said_pixel pixel w x y i j k under column is row down small held s =
    let place = offset_within w.x (surface_width w.picture) x i k column is small in
    Shows-more _ _ _ _ pixel (promised-alpha w (x + k) y (i + k) j place.0 place.1 row (sym down) held)
    (sym (over-inside (pos (x + k)) (pos y) under w (i + k) j place.0 row place.1 (sym down))) s

-- a surface's sides fit 31 bits
side-fits : (turned : Bool) (m n s : ℕ) → m < 2 ^ 31 → n < 2 ^ 31 → cond turned (m / s) (n / s) < 2 ^ 31
side-fits true m n s h l = omega (arith, div-le_self m s)
side-fits false m n s h l = omega (arith, div-le_self n s)

pub width-fits : (p : Shown) → surface_width p < 2 ^ 31
width-fits p = side-fits (is_turned p.transform) p.layout.h p.layout.w p.scale p.layout.height_fits (omega (arith, p.layout.wide_rows, p.layout.stride_fits))

pub height-fits : (p : Shown) → surface_height p < 2 ^ 31
height-fits p = side-fits (is_turned p.transform) p.layout.w p.layout.h p.scale (omega (arith, p.layout.wide_rows, p.layout.stride_fits)) p.layout.height_fits

-- what all promise each promises
pub promise-of : (windows : List Window) (k : ℕ) (w : Window) (x y : ℤ) → slice_get windows k ≡ Some w → AreOpaqueAsSaid x y windows → HasAlphaAsSaid x y w
promise-of windows k w x y e all = rw (get_or_from_slice_get windows k w w e) at (all k w (slice_get_within windows k w e))
