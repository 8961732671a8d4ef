-- The windows that are stacked with one toplevel: its tree, and then the trees of its popups whose chain of parents is mapped, in the order of
-- their creation (xdg-shell.xml, xdg_surface and xdg_popup).
use Rattle.std.specs.Prelude.{ℕ, ◌≡◌, ◌==◌, ◌&&◌, Bool, true, false, Option, Some, None, List, [], ◌++◌, filter, find, flat_map}
use Rattle.std.specs.List.{All, list_all, list_any}
use Rattle.spec_desktop.specs.Popups.{stacked_popups}
use Rattle.spec_desktop.specs.Stacking.{Standing, is_of, root_of}
use Rattle.spec_desktop.specs.Windows.{Window, windows_of}
use Rattle.spec_desktop.specs.Desktop.{Desktop, owned_in}
use Rattle.spec_desktop.specs.Marks.{AreDistinct, is_same_surface}
use Rattle.spec_desktop.specs.Moments.{applied_between}
use Rattle.spec_desktop.specs.Stacked.{all_windows}
use Rattle.law_desktop.specs.TreeMarksLaws.{AreUndamaged, among}

-- the window is stacked with the toplevel of this surface of this client
abbrev pub has_toplevel : ℕ → ℕ → Window → Bool
has_toplevel client toplevel w = (client == w.owner.client) && (toplevel == w.owner.toplevel)

-- the windows that are stacked with a toplevel that stands
abbrev pub windows_with_standing : Desktop → Option Standing → List Window
windows_with_standing d None = []
windows_with_standing d (Some s) =
    windows_of (λ c. (owned_in d c).surfaces) (λ c. stacked_popups (owned_in d c)) (root_of (owned_in d) s)

-- those of the toplevel of this surface of a client, where it stands
abbrev pub windows_with : ℕ → ℕ → Desktop → List Window
windows_with c toplevel d = windows_with_standing d (find (is_of c toplevel) d.standing)

-- of these windows, those of the tree with this root
abbrev pub of_root : ℕ → List Window → List Window
of_root root ws = filter (λ w. root == w.owner.root) ws

-- The trees of these windows stand one after another, in the order of these roots.
abbrev pub AreInTurn : List ℕ → List Window → Type 0
AreInTurn roots ws = ws ≡ flat_map (λ root. of_root root ws) roots

-- Two windows of one surface are of trees with one root.
abbrev pub SameRoot : Window → Window → Type 0
SameRoot w v = is_same_surface w v ≡ true → w.owner.root ≡ v.owner.root

-- The windows before and after are those stacked with one toplevel, among the very same windows of which none is stacked with it and to none
-- of whose surfaces damage was applied. No surface has two windows, none is in another tree than before, and the trees stand in one order.
pub record ChangesToplevel (c toplevel : ℕ) (d e : Desktop) : Type 0 where
  pub below : List Window
  pub above : List Window
  pub was : List Window
  pub is : List Window
  pub roots : List ℕ
  pub before : all_windows d ≡ among below above was
  pub after : all_windows e ≡ among below above is
  pub was_of : was ≡ windows_with c toplevel d
  pub is_of : is ≡ windows_with c toplevel e
  pub together : list_all (has_toplevel c toplevel) (was ++ is) ≡ true
  pub apart : list_any (has_toplevel c toplevel) (below ++ above) ≡ false
  pub undamaged : AreUndamaged (applied_between d e) (below ++ above)
  pub distinct_before : AreDistinct (among below above was)
  pub distinct_after : AreDistinct (among below above is)
  pub same_roots : All (λ w. All (SameRoot w) was) is
  pub was_in_turn : AreInTurn roots was
  pub is_in_turn : AreInTurn roots is
