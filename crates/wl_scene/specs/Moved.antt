-- The windows of a tree that is placed elsewhere.
use Rattle.std.specs.Prelude.{ℕ, ◌≡◌, List, [], ◌∷◌, length}
use Rattle.wl_surface.specs.Surfaces.{Surfaces}
use Rattle.spec_desktop.specs.Windows.{Owner, Place, Window, tree}

-- the same window, wherever it stands
abbrev pub IsMoved : Window → Window → Type 0
IsMoved v w = w ≡ record v { corner = w.corner }

-- the same windows one by one, wherever they stand
abbrev pub AreMoved : List Window → List Window → Type 0
AreMoved [] [] = Unit {0}
AreMoved (v ∷ vs) (w ∷ ws) = IsMoved v w × AreMoved vs ws
AreMoved [] (w ∷ ws) = ⊥
AreMoved (v ∷ vs) [] = ⊥

-- Wherever a tree is placed, it has the same windows but for where they stand.
abbrev pub TreesAreMoved : Type 0
TreesAreMoved =
    (levels : ℕ) (owner : Owner) (all : Surfaces) (surface : ℕ) (p q : Place)
    → AreMoved (tree levels owner all surface p) (tree levels owner all surface q)

-- It has as many of them.
abbrev pub MovedTreesAreAsLong : Type 0
MovedTreesAreAsLong =
    (levels : ℕ) (owner : Owner) (all : Surfaces) (surface : ℕ) (p q : Place)
    → length (tree levels owner all surface p) ≡ length (tree levels owner all surface q)
