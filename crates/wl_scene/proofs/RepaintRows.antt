-- Worked rows: a child of 4 by 4 on its parent of 8 by 8 that moves by one pixel, or is damaged where it stands.
use Rattle.std.proofs.Common.{◌≡◌, ℕ, true, false, List, [], ◌∷◌, refl}
use Rattle.std.specs.Prelude.{pos}
use Rattle.wl_store.specs.declared.transform.Transform.TheVariants.{Normal}
use Rattle.wl_surface.specs.declared.applied.Change.{Change}
use Rattle.wl_scene.specs.declared.tree_window.TreeWindow.{TreeWindow}
use Rattle.wl_scene.specs.Repaint.{marks, marks_trees}

abbrev window : ℕ → ℕ → ℕ → TreeWindow
window surface at side = record { surface = surface; root = 6; x = pos at; y = pos 2; w = side; h = side; transform = Normal; scale = 1 }

-- the parent and its child, whose corner stands in this column
abbrev tree : ℕ → List TreeWindow
tree at = window 6 0 8 ∷ window 7 at 4 ∷ []

module _ (A : Type 0) where
  -- where the child moved, all of the tree is marked, also what only the old place had, whatever was damaged
  old-place : (changes : List (Change A)) → marks (window 7 3 4 ∷ []) (window 7 4 4 ∷ []) changes (pos 3) (pos 2) ≡ true
  old-place changes = refl

  new-place : (changes : List (Change A)) → marks (window 7 3 4 ∷ []) (window 7 4 4 ∷ []) changes (pos 7) (pos 5) ≡ true
  new-place changes = refl

  parent-too : (changes : List (Change A)) → marks (tree 3) (tree 4) changes (pos 0) (pos 2) ≡ true
  parent-too changes = refl

  outside : (changes : List (Change A)) → marks (tree 3) (tree 4) changes (pos 8) (pos 2) ≡ false
  outside changes = refl

  -- where it stayed, nothing but its damage: the pixels (1, 1) and (2, 1) of the child
  nothing-changed : marks {A = A} (tree 3) (tree 3) [] (pos 3) (pos 2) ≡ false
  nothing-changed = refl

  module _ (c : Change A) (surface : c.surface ≡ 7) (rects : c.rects.items ≡ record { x = pos 1; y = pos 1; w = pos 2; h = pos 1 } ∷ []) where
    damaged : marks (tree 3) (tree 3) (c ∷ []) (pos 4) (pos 3) ≡ true
    damaged = rw (surface, rects) refl

    damaged-beside : marks (tree 3) (tree 3) (c ∷ []) (pos 3) (pos 3) ≡ false
    damaged-beside = rw (surface, rects) refl

    damaged-below : marks (tree 3) (tree 3) (c ∷ []) (pos 4) (pos 4) ≡ false
    damaged-below = rw (surface, rects) refl

-- A toplevel with a popup of 4 by 4 on it that moves by one pixel: the toplevel's tree isn't marked where the popup never was.
abbrev popup : ℕ → TreeWindow
popup at = record (window 9 at 4) { root = 9 }

abbrev both : ℕ → List TreeWindow
both at = window 6 0 8 ∷ popup at ∷ []

module _ (A : Type 0) where
  popup-place : marks_trees {A = A} (both 3) (both 4) [] (pos 3) (pos 2) ≡ true
  popup-place = refl

  toplevel-not : marks_trees {A = A} (both 3) (both 4) [] (pos 0) (pos 2) ≡ false
  toplevel-not = refl

  -- a popup that comes, and one that goes
  popup-comes : marks_trees {A = A} (window 6 0 8 ∷ []) (both 4) [] (pos 7) (pos 5) ≡ true
  popup-comes = refl

  popup-goes : marks_trees {A = A} (both 4) (window 6 0 8 ∷ []) [] (pos 7) (pos 5) ≡ true
  popup-goes = refl

  toplevel-stays : marks_trees {A = A} (both 4) (window 6 0 8 ∷ []) [] (pos 3) (pos 2) ≡ false
  toplevel-stays = refl
