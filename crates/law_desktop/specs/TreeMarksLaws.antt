-- Laws of what a step marks of which only one tree of surfaces changed: the windows below the tree and above it are the very same.
use Rattle.std.specs.Prelude.{ℕ, ℤ, ◌≡◌, ◌-ℤ◌, ◌==◌, ◌&&◌, ◌||◌, Bool, true, false, Option, None, List, ◌++◌}
use Rattle.std.specs.List.{list_all, list_any}
use Rattle.spec_desktop.specs.Windows.{Window, contains}
use Rattle.spec_desktop.specs.Marks.{Applied, AreDistinct, at_least, at_most, in_output, is_of_tree, same_records}

-- the windows of a tree, among those below it and those above it
abbrev pub among : List Window → List Window → List Window → List Window
among below above ws = below ++ (ws ++ above)

-- The windows `was` before a step and those `is` after it are all of one tree, and the others are of none of theirs.
pub record IsOneTree (below above was is : List Window) : Type 0 where
  pub together : list_all (λ w. list_all (is_of_tree w) (was ++ is)) (was ++ is) ≡ true
  pub apart : list_any (λ w. list_any (is_of_tree w) (below ++ above)) (was ++ is) ≡ false

-- the root of the window's tree is this surface of this client
abbrev pub has_root : ℕ → ℕ → Window → Bool
has_root client root w = (client == w.owner.client) && (root == w.owner.root)

-- One tree are windows that all have a root that none of the others has.
abbrev pub IsTreeOfRoot : Type 0
IsTreeOfRoot =
    (below above was is : List Window) (client root : ℕ) → list_all (has_root client root) (was ++ is) ≡ true
    → list_any (has_root client root) (below ++ above) ≡ false → IsOneTree below above was is

-- to no surface of these windows was damage applied
abbrev pub AreUndamaged : Applied → List Window → Type 0
AreUndamaged applied ws = (x y : ℤ) → list_any (λ w. applied w.owner.client w.surface x y) ws ≡ false

-- the applied damage of a window, moved to its corner, holds the point
abbrev pub is_struck_at : Applied → ℤ → ℤ → Window → Bool
is_struck_at applied x y w = contains w x y && applied w.owner.client w.surface (x -ℤ w.corner.x) (y -ℤ w.corner.y)

-- the point lies in one of these windows
abbrev pub is_in_any : ℤ → ℤ → List Window → Bool
is_in_any x y ws = list_any (λ w. contains w x y) ws

-- Where the windows of the tree keep their records, what is marked at least is the damage that was applied, each at its window's corner.
abbrev pub MarksDamageAlone : Type 0
MarksDamageAlone =
    (below above was is : List Window) (applied : Applied) → AreDistinct (among below above was) → AreUndamaged applied (below ++ above)
    → same_records was is ≡ true → (width height : ℕ) (x y : ℤ)
    → at_least width height applied (among below above was) (among below above is) x y
    ≡ (in_output width height x y && list_any (is_struck_at applied x y) is)

-- Whether they keep their records or not, what is marked at least lies in the windows of the tree, before or after.
abbrev pub MarksTreeAlone : Type 0
MarksTreeAlone =
    (below above was is : List Window) (applied : Applied) → AreDistinct (among below above was) → AreDistinct (among below above is)
    → AreUndamaged applied (below ++ above) → (width height : ℕ) (x y : ℤ)
    → at_least width height applied (among below above was) (among below above is) x y ≡ true
    → (in_output width height x y && (is_in_any x y was || is_in_any x y is)) ≡ true

-- Where a window of the tree came, went, moved, was restacked or resized, all points of the tree, before and after, may be painted again.
abbrev pub MayMarkWholeTree : Type 0
MayMarkWholeTree =
    (below above was is : List Window) (applied : Applied) → IsOneTree below above was is → same_records was is ≡ false
    → (raised : Option (ℕ × ℕ)) (width height : ℕ) (x y : ℤ)
    → (in_output width height x y && (is_in_any x y was || is_in_any x y is)) ≡ true
    → at_most width height applied raised (among below above was) (among below above is) x y ≡ true

-- Where they keep their records, and no press moved a toplevel up, what is marked at most is what is marked at least.
abbrev pub MarksNothingMore : Type 0
MarksNothingMore =
    (below above was is : List Window) (applied : Applied) → IsOneTree below above was is → same_records was is ≡ true
    → (width height : ℕ) (x y : ℤ)
    → at_most width height applied None (among below above was) (among below above is) x y
    ≡ at_least width height applied (among below above was) (among below above is) x y
