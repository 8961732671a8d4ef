-- What of a desktop makes its windows distinct.
use Rattle.std.specs.Prelude.{ℕ, suc, ◌≡◌, ◌≤◌, ◌==◌, Bool, true, false, Some, List, [], ◌∷◌, take}
use Rattle.std.specs.List.{list_any}
use Rattle.spec_desktop.specs.Told.{Output}
use Rattle.wl_surface.specs.Request.{Child}
use Rattle.wl_surface.specs.State.{History, is_member, order}
use Rattle.wl_surface.specs.Surfaces.{Link, Surfaces, history_in, link_at}
use Rattle.spec_desktop.specs.Stacking.{is_of}
use Rattle.spec_desktop.specs.Windows.{StackedPopup}
use Rattle.spec_desktop.specs.declared.answers.Done.{Done}
use Rattle.spec_desktop.specs.Desktop.{Desktop, empty, owned_in}
use Rattle.law_desktop.specs.Laws.{AreApart}
use Rattle.spec_desktop.specs.Marks.{AreDistinct}
use Rattle.spec_desktop.specs.Popups.{stacked_popups}
use Rattle.spec_desktop.specs.Stacked.{all_windows}
use Rattle.spec_desktop.specs.Act.{Act}
use Rattle.law_desktop.specs.RunLaws.{Lasts}

-- none of these is there twice
abbrev pub AreOnce : {X : Type 0} → (X → X → Bool) → List X → Type 0
AreOnce same [] = Unit {0}
AreOnce same (x ∷ xs) = (list_any (same x) xs ≡ false) × AreOnce same xs

-- the link of this number, which hasn't ended
pub record IsLive (number : ℕ) (link : Link) (all : Surfaces) : Type 0 where
  pub here : link_at number all ≡ Some link
  pub lives : link.has_ended ≡ false

-- no link that hasn't ended has this surface as its child
abbrev pub IsNoChild : ℕ → Surfaces → Type 0
IsNoChild surface all = (number : ℕ) (link : Link) → IsLive number link all → link.child ≡ surface → ⊥

-- The links of a client that haven't ended make trees: each child has one; whatever counts of what was asked of a surface, its order has no
-- member twice, and only links to its own children; each child is a level deeper than its parent, so that none descends from itself
-- (wayland.xml, wl_subcompositor.get_subsurface); and no surface stands deeper than 16, a root having depth 0, so that the 17 levels that
-- the windows are read from hold all of them.
pub record AreTrees (all : Surfaces) : Type 0 where
  pub once : (k l : ℕ) (a b : Link) → IsLive k a all → IsLive l b all → a.child ≡ b.child → k ≡ l
  pub ordered : (surface counting : ℕ) (h : History) → history_in surface all ≡ Some h
      → AreOnce is_member (order (take counting h.requests))
  pub parents :
      (surface counting number : ℕ) (h : History) (link : Link) → history_in surface all ≡ Some h
      → list_any (is_member (Child number)) (order (take counting h.requests)) ≡ true → IsLive number link all → link.parent ≡ surface
  pub depth : ℕ → ℕ
  pub below : (number : ℕ) (link : Link) → IsLive number link all → depth link.child ≡ suc (depth link.parent)
  pub top : (surface : ℕ) → IsNoChild surface all → depth surface ≡ 0
  pub shallow : (surface : ℕ) → depth surface ≤ 16

-- a popup of this surface
abbrev pub has_surface : ℕ → StackedPopup → Bool
has_surface surface p = p.surface == surface

-- No toplevel stands twice, and no popup's surface has two popups or is a toplevel's; and neither a toplevel nor a popup is a subsurface
-- (wayland.xml, wl_surface: a surface has one role).
pub record IsSound (d : Desktop) : Type 0 where
  pub apart : AreApart d.standing
  pub trees : (c : ℕ) → AreTrees (owned_in d c).surfaces
  pub popups : (c : ℕ) → AreOnce (λ p. has_surface p.surface) (stacked_popups (owned_in d c))
  pub levels :
      (c surface : ℕ) → list_any (is_of c surface) d.standing ≡ true
      → list_any (has_surface surface) (stacked_popups (owned_in d c)) ≡ false
  pub toplevel_roots : (c surface : ℕ) → list_any (is_of c surface) d.standing ≡ true → IsNoChild surface (owned_in d c).surfaces
  pub popup_roots :
      (c surface : ℕ) → list_any (has_surface surface) (stacked_popups (owned_in d c)) ≡ true → IsNoChild surface (owned_in d c).surfaces

-- Where a desktop is sound, no surface has two windows.
abbrev pub SoundIsDistinct : Type 0
SoundIsDistinct = (d : Desktop) → IsSound d → AreDistinct (all_windows d)

-- A desktop without clients is sound.
abbrev pub EmptyIsSound : Type 0
EmptyIsSound = (output : Output) → IsSound (empty output)

-- Whatever happens from a desktop without clients on, the desktop is sound.
abbrev pub RunIsSound : Type 0
RunIsSound =
    (output : Output) (acts : List Act) (dones : List Done) (d : Desktop) → Lasts acts dones (empty output) d
    → IsSound d
