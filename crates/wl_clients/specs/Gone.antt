-- The windows that are kept of the trees of popups that were dismissed (xdg-shell.xml, xdg_popup.popup_done).
use Rattle.std.specs.Prelude.{ℕ, ℤ, ◌==◌, ◌&&◌, not, Bool, List}
use Rattle.std.specs.List.{list_any}
use Rattle.std.specs.Option.{option_and_then}
use Rattle.wl_scene.specs.Repaint.{window_has}
use Rattle.wl_scene.specs.Stacked.{is_rooted}
use Rattle.wl_scene.specs.declared.stacked.Stacked.{Stacked}
use Rattle.wl_shell.specs.Kept.{Book, Kept, kept_of}
use Rattle.wl_shell.specs.Popups.{is_dismissed_in}

-- ---- a tree

-- the window is of the tree of this root, and contains the point
abbrev pub is_tree_at : ℕ → ℕ → ℤ → ℤ → Stacked → Bool
is_tree_at c root x y s = is_rooted c root s && window_has x y s.window

-- one of them is, and does
abbrev pub tree_has : ℕ → ℕ → ℤ → ℤ → List Stacked → Bool
tree_has c root x y all = list_any (is_tree_at c root x y) all

-- ---- the trees of popups that were dismissed

-- the popup that is kept of a surface was dismissed
abbrev pub is_dismissed_kept : Book → ℕ → Bool
is_dismissed_kept book surface = is_dismissed_in (option_and_then (λ (k : Kept). k.role) (kept_of book surface))

-- the window is this client's, in the tree of such a popup
abbrev pub is_gone : ℕ → Book → Stacked → Bool
is_gone c book s = (s.client == c) && is_dismissed_kept book s.window.root

-- it is another's, or in another tree
abbrev pub is_left : ℕ → Book → Stacked → Bool
is_left c book s = not (is_gone c book s)

-- one in such a tree contains the point
abbrev pub gone_has : ℕ → Book → ℤ → ℤ → List Stacked → Bool
gone_has c book x y all = list_any (λ s. is_gone c book s && window_has x y s.window) all
