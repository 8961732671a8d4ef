-- What is marked where windows of a toplevel moved: those that stay in their places are painted again only where they are damaged (wayland.xml,
-- wl_surface.damage, wl_subsurface.set_position, place_above and place_below).
use Rattle.std.specs.Prelude.{ℕ, ℤ, ◌*◌, ◌+◌, ◌-◌, ◌==◌, ◌&&◌, ◌||◌, ◌^◌, min, nat_le, not, Bool, true, if◌then◌else◌, List, [], ◌∷◌, drop, fold, length, reverse, take, zip}
use Rattle.std.specs.List.{list_all, position_or_len, prefix_len}
use Rattle.wl_scene.specs.Repaint.{is_same_window, marks, marks_trees, same_windows}
use Rattle.wl_scene.specs.declared.tree_window.TreeWindow.{TreeWindow}
use Rattle.wl_surface.specs.declared.applied.Change.{Change}

-- ---- which stay

abbrev pub are_same : TreeWindow × TreeWindow → Bool
are_same pair = is_same_window pair.0 pair.1

-- how many of the lowest windows of two lists are the same, and how many of the topmost
abbrev pub same_below : List TreeWindow → List TreeWindow → ℕ
same_below was is = prefix_len are_same (zip was is)

abbrev pub same_above : List TreeWindow → List TreeWindow → ℕ
same_above was is = prefix_len are_same (zip (reverse was) (reverse is))

-- so many of the topmost windows, and those below them
abbrev pub top : ℕ → List TreeWindow → List TreeWindow
top n ws = drop (length ws - n) ws

abbrev pub below_top : ℕ → List TreeWindow → List TreeWindow
below_top n ws = take (length ws - n) ws

-- How many windows there are below the one that is the lowest of another list. All, where it isn't among them.
abbrev pub count_below : List TreeWindow → List TreeWindow → ℕ
count_below ws [] = length ws
count_below ws (v ∷ vs) = position_or_len (λ w. is_same_window v w) ws

-- Where the others of these windows stand at the bottom of another list, how many moved up past them; else all.
abbrev pub lifted_from : ℕ → List TreeWindow → List TreeWindow → ℕ
lifted_from n ws vs = if same_windows (drop n ws) (take (length (drop n ws)) vs) then n else length ws

abbrev pub lifted : List TreeWindow → List TreeWindow → ℕ
lifted ws vs = lifted_from (count_below ws vs) ws vs

-- ---- how large they are

-- pixels, up to 2^64 - 1
abbrev pub with_pixels : ℕ → ℕ → ℕ
with_pixels n m = min (n + m) (2 ^ 64 - 1)

abbrev pub pixels_in : List TreeWindow → ℕ
pixels_in ws = fold (λ n w. with_pixels n (w.w * w.h)) 0 ws

-- those of the windows that moved up past the others, with their old places
abbrev pub pixels_lifted : List TreeWindow → List TreeWindow → ℕ
pixels_lifted was is = with_pixels (pixels_in (take (lifted was is) was)) (pixels_in (drop (length was - lifted was is) is))

-- ---- what is marked

-- Of windows in three pieces, each by itself: so many at the bottom, so many that stay, and those above.
abbrev pub marks_pieces : {A : Type 0} → ℕ → ℕ → ℕ → List TreeWindow → List TreeWindow → List (Change A) → ℤ → ℤ → Bool
marks_pieces a b n was is changes x y =
    marks (take a was) (take b is) changes x y
    || (marks (take n (drop a was)) (take n (drop b is)) changes x y || marks (drop n (drop a was)) (drop n (drop b is)) changes x y)

-- Where some moved past others, those are marked that have the fewer pixels, in their old places and in their new ones.
abbrev pub marks_past : {A : Type 0} → List TreeWindow → List TreeWindow → List (Change A) → ℤ → ℤ → Bool
marks_past was is changes x y =
    if nat_le (pixels_lifted was is) (pixels_lifted is was)
    then marks_pieces (lifted was is) 0 (length was - lifted was is) was is changes x y
    else marks_pieces 0 (lifted is was) (length is - lifted is was) was is changes x y

-- Of windows of which so many stay at the bottom and so many on top, what is damaged of those, and what moved between them.
abbrev pub marks_around : {A : Type 0} → ℕ → ℕ → List TreeWindow → List TreeWindow → List (Change A) → ℤ → ℤ → Bool
marks_around below above was is changes x y =
    marks (take below was) (take below is) changes x y
    || (marks_past (below_top above (drop below was)) (below_top above (drop below is)) changes x y
    || marks (top above (drop below was)) (top above (drop below is)) changes x y)

-- these windows are all of one tree
abbrev pub are_of : ℕ → List TreeWindow → Bool
are_of root ws = list_all (λ w. root == w.root) ws

abbrev pub is_one_tree : List TreeWindow → List TreeWindow → Bool
is_one_tree [] [] = true
is_one_tree [] (v ∷ vs) = are_of v.root (v ∷ vs)
is_one_tree (w ∷ ws) vs = are_of w.root (w ∷ ws) && are_of w.root vs

-- windows of one tree moved, and no others
abbrev pub moves_in_one : List TreeWindow → List TreeWindow → Bool
moves_in_one was is = is_one_tree was is && not (same_windows was is)

abbrev pub marks_moved_by : {A : Type 0} → ℕ → ℕ → List TreeWindow → List TreeWindow → List (Change A) → ℤ → ℤ → Bool
marks_moved_by below above was is changes x y =
    if moves_in_one (below_top above (drop below was)) (below_top above (drop below is))
    then marks_around below above was is changes x y
    else marks_trees was is changes x y

-- The points to be painted again of a toplevel's windows before and after: where windows of one tree moved, what moved past the others, and what
-- is damaged of those; else those of each tree by itself.
abbrev pub marks_moved : {A : Type 0} → List TreeWindow → List TreeWindow → List (Change A) → ℤ → ℤ → Bool
marks_moved was is changes x y =
    marks_moved_by (same_below was is) (same_above (drop (same_below was is) was) (drop (same_below was is) is)) was is changes x y
