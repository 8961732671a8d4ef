-- What of an output is marked where trees of surfaces changed.
use Rattle.std.specs.Prelude.{ℕ, ℤ, ◌≡◌, ◌==◌, ◌-ℤ◌, ◌&&◌, ◌||◌, pos, unsigned_abs, Bool, false, if◌then◌else◌, Option, Some, None, List, ◌++◌, filter, not}
use Rattle.std.specs.Cmp.Lexicographic.{pointwise}
use Rattle.std.specs.List.{list_any}
use Rattle.wl_geom.specs.declared.rect.Rect.{Rect}
use Rattle.wl_geom.specs.Rect.{in_span}
use Rattle.wl_surface.specs.State.{is_damaged}
use Rattle.spec_desktop.specs.Marks.{int_eq}
use Rattle.wl_store.specs.declared.transform.Transform.{Transform}
use Rattle.wl_store.specs.declared.transform.Transform.TheVariants.{Normal, Rotated90, Rotated180, Rotated270, Flipped, Flipped90}
use Rattle.wl_store.specs.declared.transform.Transform.TheVariants.{Flipped180, Flipped270}
use Rattle.wl_surface.specs.declared.applied.Change.{Change}
use Rattle.wl_scene.specs.declared.tree_window.TreeWindow.{TreeWindow}

-- the number of a transform, as wl_output.transform counts them
abbrev pub number_of : Transform → ℕ
number_of Normal = 0
number_of Rotated90 = 1
number_of Rotated180 = 2
number_of Rotated270 = 3
number_of Flipped = 4
number_of Flipped90 = 5
number_of Flipped180 = 6
number_of Flipped270 = 7

-- two windows are of one surface of one tree, and have the same corner, size, transform and scale
abbrev pub is_same_window : TreeWindow → TreeWindow → Bool
is_same_window w v =
    ((w.surface == v.surface) && (w.root == v.root))
    && ((int_eq w.x v.x && int_eq w.y v.y)
    && (((w.w == v.w) && (w.h == v.h)) && ((number_of w.transform == number_of v.transform) && (w.scale == v.scale))))

-- so are the windows of two lists, one by one
abbrev pub same_windows : List TreeWindow → List TreeWindow → Bool
same_windows was is = pointwise is_same_window was is

-- the window contains the point
abbrev pub window_has : ℤ → ℤ → TreeWindow → Bool
window_has x y w = in_span w.x (pos w.w) x && in_span w.y (pos w.h) y

abbrev pub any_window_has : ℤ → ℤ → Option TreeWindow → Bool
any_window_has x y None = false
any_window_has x y (Some w) = window_has x y w

-- the damage of the window's surface, these rectangles, holds the point (wayland.xml, wl_surface.damage)
abbrev pub is_window_damaged : List Rect → ℤ → ℤ → TreeWindow → Bool
is_window_damaged rects x y w = window_has x y w && is_damaged w.w w.h rects (unsigned_abs (x -ℤ w.x)) (unsigned_abs (y -ℤ w.y))

-- the window is of the surface of the change, whose damage holds the point there
abbrev pub is_struck_by : {A : Type 0} → Change A → ℤ → ℤ → TreeWindow → Bool
is_struck_by c x y w = (c.surface == w.surface) && is_window_damaged c.rects.items x y w

-- the damage of the change holds the point at a window of its surface
abbrev pub is_damaged_by : {A : Type 0} → List TreeWindow → ℤ → ℤ → Change A → Bool
is_damaged_by windows x y c = list_any (is_struck_by c x y) windows

-- The points of a tree to be painted again, by its windows before and after: where the windows are the same, those that the damage of a
-- change holds at a window of its surface (wayland.xml, wl_surface.damage); else all points of the windows.
abbrev pub marks : {A : Type 0} → List TreeWindow → List TreeWindow → List (Change A) → ℤ → ℤ → Bool
marks was is changes x y =
    if same_windows was is
    then list_any (is_damaged_by is x y) changes
    else list_any (window_has x y) was || list_any (window_has x y) is

-- ---- several trees

-- of these windows, those of the tree with this root
abbrev pub tree_of : ℕ → List TreeWindow → List TreeWindow
tree_of root ws = filter (λ w. root == w.root) ws

-- the windows of each tree stand one behind another
abbrev pub AreTogether : List TreeWindow → Type 0
AreTogether ws =
    (root : ℕ) → (below : List TreeWindow) × (above : List TreeWindow) × (ws ≡ below ++ (tree_of root ws ++ above))

-- none of these windows is of the tree with this root
abbrev pub is_new : ℕ → List TreeWindow → Bool
is_new root ws = not (list_any (λ w. root == w.root) ws)

-- The points to be painted again of several trees, by their windows before and after: those of the tree of each window.
abbrev pub marks_trees : {A : Type 0} → List TreeWindow → List TreeWindow → List (Change A) → ℤ → ℤ → Bool
marks_trees was is changes x y = list_any (λ w. marks (tree_of w.root was) (tree_of w.root is) changes x y) (was ++ is)
