-- With which toplevel a tree of surfaces is stacked (xdg-shell.xml, xdg_popup).
use Rattle.std.specs.Prelude.{ℕ, ◌≡◌, true, false, Option, Some, None, List, find}
use Rattle.spec_desktop.specs.Popups.{stacked_popups}
use Rattle.spec_desktop.specs.Stacking.{Standing, is_of, root_of}
use Rattle.spec_desktop.specs.Windows.{Root, StackedPopup, roots_of}
use Rattle.spec_desktop.specs.Desktop.{Desktop, owned_in}
use Rattle.law_desktop.specs.Soundness.{has_surface}
use Rattle.law_desktop.specs.TreeStepsLaws.{IsRootOf}
use Rattle.law_desktop.specs.Changes.{StaysPainted}
use Rattle.law_desktop.specs.ToplevelRoots.{has_parent_in}
use Rattle.law_desktop.specs.Toplevel.{ChangesToplevel}

-- the roots of the trees that are stacked with a toplevel
abbrev pub stacked_roots : Desktop → Standing → List Root
stacked_roots d s =
    roots_of (owned_in d s.client).surfaces (root_of (owned_in d) s) (stacked_popups (owned_in d s.client))

-- the popup of a surface of a client, if it has one
abbrev pub popup_of : ℕ → ℕ → Desktop → Option StackedPopup
popup_of c surface d = find (has_surface surface) (stacked_popups (owned_in d c))

-- The toplevel of this surface stands, and one of the roots that are stacked with it is the parent of the popup.
pub record HoldsParent (c toplevel : ℕ) (d : Desktop) (p : StackedPopup) : Type 0 where
  pub standing : Standing
  pub stands : find (is_of c toplevel) d.standing ≡ Some standing
  pub holds : has_parent_in (stacked_roots d standing) p ≡ true

-- no toplevel that stands does
abbrev pub IsLoose : ℕ → Desktop → StackedPopup → Type 0
IsLoose c d p =
    (toplevel : ℕ) (s : Standing) → find (is_of c toplevel) d.standing ≡ Some s → has_parent_in (stacked_roots d s) p ≡ false

abbrev pub IsStackedAs : ℕ → ℕ → Desktop → Option StackedPopup → Option ℕ → Type 0
IsStackedAs c root d None None = ⊥
IsStackedAs c root d None (Some toplevel) = toplevel ≡ root
IsStackedAs c root d (Some p) None = IsLoose c d p
IsStackedAs c root d (Some p) (Some toplevel) = HoldsParent c toplevel d p

-- The toplevel that the tree of this root is stacked with, or would be if it were mapped: the root itself, where it is no popup; for a popup
-- the toplevel with which its parent is stacked, if there is one.
abbrev pub IsStackedWith : ℕ → ℕ → Desktop → Option ℕ → Type 0
IsStackedWith c root d toplevel = IsStackedAs c root d (popup_of c root d) toplevel

-- The windows of this toplevel may change; where there is none, none do.
abbrev pub ChangesWith : Option ℕ → ℕ → Desktop → Desktop → Type 0
ChangesWith None c d e = StaysPainted d e
ChangesWith (Some toplevel) c d e = ChangesToplevel c toplevel d e

-- Where a surface is touched the windows may change that are stacked with the toplevel of the tree that it was in, and where none is they
-- stay.
abbrev pub ChangesAt : Option ℕ → ℕ → Desktop → Desktop → Type 0
ChangesAt None c d e = StaysPainted d e
ChangesAt (Some id) c d e =
    (root : ℕ) (toplevel : Option ℕ) → IsRootOf (owned_in d c).surfaces id root → IsStackedWith c root d toplevel
    → ChangesWith toplevel c d e
