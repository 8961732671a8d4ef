-- Windows, and the colour of a point under a list of them.
use Rattle.std.specs.Prelude.{◌≡◌, ℤ, pos, ◌-ℤ◌, unsigned_abs, List, All, fold, Bool, true, cond, ◌&&◌}
use Rattle.wl_geom.specs.Rect.{in_span}
use Rattle.wl_geom.specs.Region.{Area, holds}
use Rattle.wl_store.specs.declared.color.Argb.{Argb}
use Rattle.wl_store.specs.Picture.{Shown, color_at, surface_width, surface_height}
use Rattle.wl_blend.specs.declared.color.Rgb.{Rgb}
use Rattle.wl_blend.specs.Blend.{blended}

-- a picture, where its top left point lies in the output, and the region of its points that are said to be opaque
pub record Window : Type 0 where
  pub x : ℤ
  pub y : ℤ
  pub picture : Shown
  pub opaque : Area

-- the window contains the point (x, y) of the output
abbrev pub in_window : ℤ → ℤ → Window → Bool
in_window x y w =
    in_span w.x (pos (surface_width w.picture)) x
    && in_span w.y (pos (surface_height w.picture)) y

-- the window's colour at the point, which it contains
abbrev pub color_in : ℤ → ℤ → Window → Argb
color_in x y w = color_at w.picture (unsigned_abs (x -ℤ w.x)) (unsigned_abs (y -ℤ w.y))

-- the colour at the point with the window laid over it
abbrev pub over : ℤ → ℤ → Rgb → Window → Rgb
over x y under w = cond (in_window x y w) (blended under (color_in x y w)) under

-- the colour of the point painted from nothing: the background, and over it each window that contains the point, from the
-- first to the last
abbrev pub scratch : Rgb → List Window → ℤ → ℤ → Rgb
scratch background windows x y = fold (over x y) background windows

-- the window's opaque region holds the point
abbrev pub is_said_opaque : ℤ → ℤ → Window → Bool
is_said_opaque x y w = holds (x -ℤ w.x) (y -ℤ w.y) w.opaque.made

-- where the window contains the point and its opaque region holds it, it has the alpha 255 there
abbrev pub HasAlphaAsSaid : ℤ → ℤ → Window → Type 0
HasAlphaAsSaid x y w = (in_window x y w && is_said_opaque x y w) ≡ true → (color_in x y w).a ≡ 255

-- each window that contains the point and whose opaque region holds it has the alpha 255 there
abbrev pub AreOpaqueAsSaid : ℤ → ℤ → List Window → Type 0
AreOpaqueAsSaid x y windows = All (λ w. (in_window x y w && is_said_opaque x y w) ≡ true → (color_in x y w).a ≡ 255) windows
