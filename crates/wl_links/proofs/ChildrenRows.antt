-- Worked examples, computed on the definitions.
use Rattle.std.proofs.Common.{◌≡◌, ℤ, List, [], ◌∷◌, refl}
use Rattle.std.specs.Prelude.{pos, negsuc}
use Rattle.wl_links.specs.declared.placed.Member.{Member}
use Rattle.wl_links.specs.declared.placed.Member.TheVariants.{Itself, Child}
use Rattle.wl_links.specs.declared.placed.Placed.{Placed}
use Rattle.wl_links.specs.Stacks.{above, added, alone, below, moved, placed, whole, without}

abbrev at : Member → ℤ → ℤ → Placed
at member x y = record { member = member; x = x; y = y }

-- a surface with the children 1 and 2, of which the second is at (4, -1)
abbrev both : List Placed
both = at Itself (pos 0) (pos 0) ∷ at (Child 1) (pos 0) (pos 0) ∷ at (Child 2) (pos 4) (negsuc 0) ∷ []

-- a new child is topmost, at (0, 0)
row-added : moved 2 (pos 4) (negsuc 0) (added 2 (added 1 (whole []))) ≡ both
row-added = refl

-- below the surface, with its position
row-below : placed below 2 Itself both ≡ at (Child 2) (pos 4) (negsuc 0) ∷ at Itself (pos 0) (pos 0) ∷ at (Child 1) (pos 0) (pos 0) ∷ []
row-below = refl

-- right above the surface is below its other children
row-above : placed above 2 Itself both ≡ at Itself (pos 0) (pos 0) ∷ at (Child 2) (pos 4) (negsuc 0) ∷ at (Child 1) (pos 0) (pos 0) ∷ []
row-above = refl

-- a child beside itself, beside one that isn't there, and one that isn't there
row-itself : placed above 1 (Child 1) both ≡ both
row-itself = refl

row-no_sibling : placed below 1 (Child 3) both ≡ both
row-no_sibling = refl

row-no_child : placed above 3 Itself both ≡ both
row-no_child = refl

-- without its children a surface is alone
row-removed : without (Child 1) (without (Child 2) both) ≡ alone
row-removed = refl
