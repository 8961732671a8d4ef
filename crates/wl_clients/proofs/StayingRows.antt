-- Worked rows: windows of a toplevel of 8 by 8 that move, or are restacked, are marked in their old places and in their new ones, and it isn't.
use Rattle.std.proofs.Common.{◌≡◌, ℕ, Bool, true, false, List, [], ◌∷◌, map, refl}
use Rattle.std.specs.Prelude.{pos}
use Rattle.wl_store.specs.declared.transform.Transform.TheVariants.{Normal}
use Rattle.wl_surface.specs.declared.applied.Change.{Change}
use Rattle.wl_scene.specs.declared.tree_window.TreeWindow.{TreeWindow}
use Rattle.wl_clients.specs.Staying.{marks_moved}

abbrev window : ℕ → ℕ → ℕ → TreeWindow
window surface at side = record { surface = surface; root = 6; x = pos at; y = pos 0; w = side; h = side; transform = Normal; scale = 1 }

abbrev toplevel : TreeWindow
toplevel = window 6 0 8

-- the points of the uppermost row, and of the third
abbrev row : {A : Type 0} → List TreeWindow → List TreeWindow → List (Change A) → List Bool
row was is changes = map (λ x. marks_moved was is changes (pos x) (pos 0)) (0 ∷ 1 ∷ 2 ∷ 3 ∷ 4 ∷ 5 ∷ 6 ∷ 7 ∷ [])

abbrev third : {A : Type 0} → List TreeWindow → List TreeWindow → List (Change A) → List Bool
third was is changes = map (λ x. marks_moved was is changes (pos x) (pos 2)) (0 ∷ 1 ∷ 2 ∷ 3 ∷ 4 ∷ 5 ∷ 6 ∷ 7 ∷ [])

module _ (A : Type 0) where
  -- a subsurface of 2 by 2 moves by a pixel: three columns of two rows
  moves : row {A = A} (toplevel ∷ window 7 3 2 ∷ []) (toplevel ∷ window 7 4 2 ∷ []) []
      ≡ false ∷ false ∷ false ∷ true ∷ true ∷ true ∷ false ∷ false ∷ []
  moves = refl

  moves-below : third {A = A} (toplevel ∷ window 7 3 2 ∷ []) (toplevel ∷ window 7 4 2 ∷ []) []
      ≡ false ∷ false ∷ false ∷ false ∷ false ∷ false ∷ false ∷ false ∷ []
  moves-below = refl

  -- it goes below the toplevel's own window, and comes back
  placed-below : row {A = A} (toplevel ∷ window 7 3 2 ∷ []) (window 7 3 2 ∷ toplevel ∷ []) []
      ≡ false ∷ false ∷ false ∷ true ∷ true ∷ false ∷ false ∷ false ∷ []
  placed-below = refl

  placed-above : row {A = A} (window 7 3 2 ∷ toplevel ∷ []) (toplevel ∷ window 7 3 2 ∷ []) []
      ≡ false ∷ false ∷ false ∷ true ∷ true ∷ false ∷ false ∷ false ∷ []
  placed-above = refl

  -- it goes past two others, and moves by a pixel
  past-others : row {A = A} (toplevel ∷ window 7 1 1 ∷ window 8 4 2 ∷ window 9 6 2 ∷ []) (toplevel ∷ window 8 4 2 ∷ window 9 6 2 ∷ window 7 2 1 ∷ []) []
      ≡ false ∷ true ∷ true ∷ false ∷ false ∷ false ∷ false ∷ false ∷ []
  past-others = refl

  -- it comes, and goes
  comes : row {A = A} (toplevel ∷ window 8 0 1 ∷ []) (toplevel ∷ window 7 3 2 ∷ window 8 0 1 ∷ []) []
      ≡ false ∷ false ∷ false ∷ true ∷ true ∷ false ∷ false ∷ false ∷ []
  comes = refl

  goes : row {A = A} (toplevel ∷ window 7 3 2 ∷ window 8 0 1 ∷ []) (toplevel ∷ window 8 0 1 ∷ []) []
      ≡ false ∷ false ∷ false ∷ true ∷ true ∷ false ∷ false ∷ false ∷ []
  goes = refl

  -- what is damaged of those that stay is marked too
  module _ (c : Change A) (surface : c.surface ≡ 6) (rects : c.rects.items ≡ record { x = pos 0; y = pos 0; w = pos 1; h = pos 1 } ∷ []) where
    damaged : row (toplevel ∷ window 7 3 2 ∷ []) (toplevel ∷ window 7 4 2 ∷ []) (c ∷ []) ≡ true ∷ false ∷ false ∷ true ∷ true ∷ true ∷ false ∷ false ∷ []
    damaged = rw (surface, rects) refl
