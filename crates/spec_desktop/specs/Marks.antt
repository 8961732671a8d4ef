-- Which points of the output a step marks to be painted again, of the windows before it and after it.
use Rattle.std.specs.Prelude.{ℕ, ◌≡◌, ℤ, pos, ◌-ℤ◌, ◌==◌, ◌&&◌, ◌||◌, int_le, int_lt, not, Bool, true, false, if◌then◌else◌, Option, Some}
use Rattle.std.specs.Prelude.{None, List, [], ◌∷◌, filter}
use Rattle.std.specs.List.{list_any}
use Rattle.spec_desktop.specs.Windows.{Window, contains}

abbrev pub int_eq : ℤ → ℤ → Bool
int_eq a b = int_le a b && int_le b a

-- two windows are of one surface
abbrev pub is_same_surface : Window → Window → Bool
is_same_surface w v = (w.owner.client == v.owner.client) && (w.surface == v.surface)

-- The record of a window: its surface, corner, size, transform and scale.
abbrev pub has_same_record : Window → Window → Bool
has_same_record w v =
    is_same_surface w v
    && ((int_eq w.corner.x v.corner.x && int_eq w.corner.y v.corner.y)
    && ((w.width == v.width && w.height == v.height) && (w.transform == v.transform && w.scale == v.scale)))

-- the window is among these, with the same record
abbrev pub is_kept_in : List Window → Window → Bool
is_kept_in others w = list_any (has_same_record w) others

-- no surface has two of these windows
abbrev pub AreDistinct : List Window → Type 0
AreDistinct [] = Unit {0}
AreDistinct (w ∷ ws) = (list_any (is_same_surface w) ws ≡ false) × AreDistinct ws

-- one window stands before another of these
abbrev pub is_before : Window → Window → List Window → Bool
is_before w v [] = false
is_before w v (x ∷ xs) = if is_same_surface w x then list_any (is_same_surface v) xs else is_before w v xs

-- The order of two windows differs: both are in both lists, one way round and the other.
abbrev pub has_moved_past : List Window → List Window → Window → Window → Bool
has_moved_past old new w v = is_before w v old && is_before v w new

-- a point is in both, in this list or in that
abbrev pub shared_by : List Window → Window → Window → ℤ → ℤ → Bool
shared_by windows w v x y =
    list_any (λ a. is_same_surface w a && contains a x y) windows && list_any (λ a. is_same_surface v a && contains a x y) windows

-- damage that the step applied, at a point of a surface of a client
abbrev pub Applied : Type 0
Applied = ℕ → ℕ → ℤ → ℤ → Bool

-- a window that came, went or changed its record contains the point
abbrev pub is_changed_at : List Window → ℤ → ℤ → Window → Bool
is_changed_at others x y w = contains w x y && not (is_kept_in others w)

-- the applied damage of a window that stayed, moved to its corner, holds the point
abbrev pub is_damaged_at : Applied → List Window → ℤ → ℤ → Window → Bool
is_damaged_at applied others x y w =
    is_kept_in others w && (contains w x y && applied w.owner.client w.surface (x -ℤ w.corner.x) (y -ℤ w.corner.y))

-- two windows of which one moved past the other share the point, before or after
abbrev pub is_restacked_at : List Window → List Window → ℤ → ℤ → Bool
is_restacked_at old new x y =
    list_any (λ w. list_any (λ v. has_moved_past old new w v && (shared_by old w v x y || shared_by new w v x y)) old) old

abbrev pub in_output : ℕ → ℕ → ℤ → ℤ → Bool
in_output width height x y = (int_le (pos 0) x && int_lt x (pos width)) && (int_le (pos 0) y && int_lt y (pos height))

-- What a step from `old` to `new` marks at least.
abbrev pub at_least : ℕ → ℕ → Applied → List Window → List Window → ℤ → ℤ → Bool
at_least width height applied old new x y =
    in_output width height x y
    && ((list_any (is_changed_at new x y) old || list_any (is_changed_at old x y) new)
    || (list_any (is_damaged_at applied old x y) new || is_restacked_at old new x y))

-- the windows of one tree: those with the same root
abbrev pub is_of_tree : Window → Window → Bool
is_of_tree w v = (w.owner.client == v.owner.client) && (w.owner.root == v.owner.root)

abbrev pub same_records : List Window → List Window → Bool
same_records [] [] = true
same_records (w ∷ ws) (v ∷ vs) = has_same_record w v && same_records ws vs
same_records [] (v ∷ vs) = false
same_records (w ∷ ws) [] = false

-- the list of records of a window's tree differs
abbrev pub has_changed_tree : List Window → List Window → Window → Bool
has_changed_tree old new w = not (same_records (filter (is_of_tree w) old) (filter (is_of_tree w) new))

-- a press moved up the toplevel that the window is stacked with
abbrev pub is_raised : Option (ℕ × ℕ) → Window → Bool
is_raised None w = false
is_raised (Some toplevel) w = (w.owner.client == toplevel.0) && (w.owner.toplevel == toplevel.1)

abbrev pub is_allowed_at : List Window → List Window → Option (ℕ × ℕ) → ℤ → ℤ → Window → Bool
is_allowed_at old new raised x y w = contains w x y && (has_changed_tree old new w || is_raised raised w)

-- What it marks at most: that, and the points of all windows of a tree whose list of records differs, and of all trees of a toplevel that a
-- press moved up.
abbrev pub at_most : ℕ → ℕ → Applied → Option (ℕ × ℕ) → List Window → List Window → ℤ → ℤ → Bool
at_most width height applied raised old new x y =
    at_least width height applied old new x y
    || (in_output width height x y && (list_any (is_allowed_at old new raised x y) old || list_any (is_allowed_at old new raised x y) new))
