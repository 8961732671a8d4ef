-- A worked row: a child of 4 by 4 on its parent of 4 by 4, in an output of 16 by 16, that moves by one pixel, or is damaged where it stands.
use Rattle.std.proofs.Common.{◌≡◌, ℕ, List, [], ◌∷◌, ◌++◌, Bool, false, None, refl, map}
use Rattle.std.specs.Prelude.{replicate, ℤ, pos, ◌==◌, ◌&&◌, filter}
use Rattle.wl_store.specs.declared.color.Format.TheVariants.{Argb8888}
use Rattle.wl_geom.specs.Rect.{in_rect}
use Rattle.spec_desktop.specs.Windows.{Window}
use Rattle.spec_desktop.specs.Marks.{Applied, at_least, at_most}

-- a window of this surface of client 1, in the tree of surface 6, whose corner stands there
abbrev window : ℕ → ℕ → ℕ → Window
window surface x y =
    record {
      owner = record { client = 1; root = 6; toplevel = 6 };
      surface = surface;
      corner = record { x = pos x; y = pos y };
      width = 4;
      height = 4;
      transform = 0;
      scale = 1;
      buffer = record { number = 0; object = 9; store = 0; offset = 0; width = 4; height = 4; stride = 16; format = Argb8888 };
      opaque = [];
      input = None;
    }

-- the parent and its child, whose corner stands there
abbrev windows : ℕ → ℕ → List Window
windows x y = window 6 2 2 ∷ window 7 x y ∷ []

abbrev nothing : Applied
nothing client surface x y = false

-- one pixel of the child was damaged
abbrev pixel : Applied
pixel client surface x y = (client == 1 && surface == 7) && in_rect x y (record { x = pos 1; y = pos 1; w = pos 1; h = pos 1 })

abbrev along : List ℕ
along = 0 ∷ 1 ∷ 2 ∷ 3 ∷ 4 ∷ 5 ∷ 6 ∷ 7 ∷ 8 ∷ 9 ∷ 10 ∷ 11 ∷ 12 ∷ 13 ∷ 14 ∷ 15 ∷ []

-- of each row of the output, the points that pass
abbrev rows : (ℤ → ℤ → Bool) → List (List ℕ)
rows passes = map (λ y. filter (λ x. passes (pos x) (pos y)) along) along

-- so many rows with the same points
abbrev of : ℕ → List ℕ → List (List ℕ)
of n points = replicate n points

-- The child moved: what is marked at least is where it was and where it is.
pub row_moved : rows (at_least 16 16 nothing (windows 4 3) (windows 5 3)) ≡ of 3 [] ++ of 4 (4 ∷ 5 ∷ 6 ∷ 7 ∷ 8 ∷ []) ++ of 9 []
row_moved = refl

-- At most its parent is marked too, which is of the same tree.
pub row_moved-most : rows (at_most 16 16 nothing None (windows 4 3) (windows 5 3))
    ≡ of 2 [] ++ of 1 (2 ∷ 3 ∷ 4 ∷ 5 ∷ []) ++ of 3 (2 ∷ 3 ∷ 4 ∷ 5 ∷ 6 ∷ 7 ∷ 8 ∷ []) ++ of 1 (4 ∷ 5 ∷ 6 ∷ 7 ∷ 8 ∷ []) ++ of 9 []
row_moved-most = refl

-- The child stood still and one pixel of it was damaged: that point is marked, at the child's corner, and at most no other.
pub row_damaged : rows (at_least 16 16 pixel (windows 4 3) (windows 4 3)) ≡ of 4 [] ++ of 1 (5 ∷ []) ++ of 11 []
row_damaged = refl

pub row_damaged-most : rows (at_most 16 16 pixel None (windows 4 3) (windows 4 3)) ≡ of 4 [] ++ of 1 (5 ∷ []) ++ of 11 []
row_damaged-most = refl

-- The child went below its parent: what is marked at least is where the two share the point.
pub row_restacked : rows (at_least 16 16 nothing (windows 4 3) (window 7 4 3 ∷ window 6 2 2 ∷ [])) ≡ of 3 [] ++ of 3 (4 ∷ 5 ∷ []) ++ of 10 []
row_restacked = refl
