-- Each window shows the buffer that its surface has applied.
use Rattle.std.proofs.Common.{◌≡◌, ℕ, zero, suc, Bool, true, false, List, [], ◌∷◌, Option, Some, None, refl}
use Rattle.std.specs.Prelude.{◌+ℤ◌, flat_map, cond, map}
use Rattle.wl_surface.specs.Request.{Buffer, Member, Itself, Child}
use Rattle.wl_surface.specs.State.{History, applied, counting, height_of, order, position, width_of}
use Rattle.wl_surface.specs.Surfaces.{Link, history_in, link_at}
use Rattle.spec_desktop.specs.Stacking.{Owned, root_of}
use Rattle.spec_desktop.specs.Windows.{Owner, Place, Root, StackedPopup, Window, child_windows, corner_at, member_windows, owner_of, roots_of, shown_windows, surface_windows, tree}
use Rattle.spec_desktop.specs.Windows.{window_with, windows, windows_of}
use Rattle.spec_desktop.specs.Desktop.{Desktop, owned_in}
use Rattle.spec_desktop.specs.Popups.{stacked_popups}
use Rattle.spec_desktop.specs.Stacked.{all_windows}
use Rattle.law_desktop.proofs.Lists.Each.{Each, each-append}

abbrev pub IsShown : (ℕ → Owned) → Window → Type 0
IsShown owned w =
    (h : History) × (history_in w.surface (owned w.owner.client).surfaces ≡ Some h) × ((applied h).buffer ≡ Some w.buffer)
    × (w.width ≡ width_of (Some w.buffer) w.transform w.scale) × (w.height ≡ height_of (Some w.buffer) w.transform w.scale)

each-flat : {X Y : Type 0} (P : Y → Type 0) (f : X → List Y) → ((x : X) → Each P (f x)) → (xs : List X) → Each P (flat_map f xs)
each-flat P f e [] = tt
each-flat P f e (x ∷ xs) = each-append P (f x) (flat_map f xs) (e x) (each-flat P f e xs)

shown-window : (owned : ℕ → Owned) (owner : Owner) (surface : ℕ) (corner : Place) (h : History) (buffer : Option Buffer) → history_in surface (owned owner.client).surfaces ≡ Some h
    → (applied h).buffer ≡ buffer
    → Each (IsShown owned) (window_with owner surface corner (applied h) buffer)
shown-window owned owner surface corner h None e f = tt
shown-window owned owner surface corner h (Some buffer) e f = ((h, e, f, refl, refl), tt)

shown-child : (owned : ℕ → Owned) (next : ℕ → Place → List Window) → ((child : ℕ) (at : Place) → Each (IsShown owned) (next child at)) → (h : History) (corner : Place) (l : ℕ) (link : Option Link)
    → Each (IsShown owned) (child_windows next h corner l link)
shown-child owned next e h corner l None = tt
shown-child owned next e h corner l (Some link) = go link.has_ended where
  go : (b : Bool) → Each (IsShown owned) (cond b [] (next link.child (record { x = corner.x +ℤ (position l (counting h)).0; y = corner.y +ℤ (position l (counting h)).1 })))
  go true = tt
  go false = e link.child _

shown-member : (owned : ℕ → Owned) (next : ℕ → Place → List Window) → ((child : ℕ) (at : Place) → Each (IsShown owned) (next child at)) → (owner : Owner) (surface : ℕ) (h : History) (corner : Place)
    → history_in surface (owned owner.client).surfaces ≡ Some h
    → (m : Member) → Each (IsShown owned) (member_windows next owner (owned owner.client).surfaces surface h corner m)
shown-member owned next e owner surface h corner is Itself = shown-window owned owner surface corner h (applied h).buffer is refl
shown-member owned next e owner surface h corner is (Child l) = shown-child owned next e h corner l (link_at l (owned owner.client).surfaces)

shown-all : (owned : ℕ → Owned) (next : ℕ → Place → List Window) → ((child : ℕ) (at : Place) → Each (IsShown owned) (next child at))
    → (owner : Owner) (surface : ℕ) (h : History) (corner : Place) (buffer : Option Buffer) → history_in surface (owned owner.client).surfaces ≡ Some h
    → Each (IsShown owned) (shown_windows next owner (owned owner.client).surfaces surface h corner buffer)
shown-all owned next e owner surface h corner None is = tt
shown-all owned next e owner surface h corner (Some buffer) is =
    each-flat (IsShown owned) (member_windows next owner (owned owner.client).surfaces surface h corner) (shown-member owned next e owner surface h corner is) (order (counting h))

shown-surface : (owned : ℕ → Owned) (next : ℕ → Place → List Window) → ((child : ℕ) (at : Place) → Each (IsShown owned) (next child at))
    → (owner : Owner) (surface : ℕ) (place : Place) (h : Option History) → history_in surface (owned owner.client).surfaces ≡ h
    → Each (IsShown owned) (surface_windows next owner (owned owner.client).surfaces surface place h)
shown-surface owned next e owner surface place None is = tt
shown-surface owned next e owner surface place (Some h) is = shown-all owned next e owner surface h (corner_at place h) (applied h).buffer is

shown-tree : (levels : ℕ) (owned : ℕ → Owned) (owner : Owner) (surface : ℕ) (place : Place) → Each (IsShown owned) (tree levels owner (owned owner.client).surfaces surface place)
unfolding tree
shown-tree zero owned owner surface place = tt
shown-tree (suc n) owned owner surface place =
    shown-surface owned (λ child at. tree n owner (owned owner.client).surfaces child at) (λ child at. shown-tree n owned owner child at) owner surface place
    (history_in surface (owned owner.client).surfaces) refl

shown-roots : (owned : ℕ → Owned) (popups : ℕ → List StackedPopup) (toplevels : List Root) → Each (IsShown owned) (windows (λ client. (owned client).surfaces) popups toplevels)
shown-roots owned popups toplevels =
    each-flat (IsShown owned) (windows_of (λ client. (owned client).surfaces) popups)
    (λ toplevel. each-flat (IsShown owned) (λ (r : Root). tree 17 (owner_of r) (owned r.client).surfaces r.surface r.place)
    (λ r. shown-tree 17 owned (owner_of r) r.surface r.place)
    (roots_of (owned toplevel.client).surfaces toplevel (popups toplevel.client)))
    toplevels

pub all-shown : (d : Desktop) → Each (IsShown (owned_in d)) (all_windows d)
all-shown d = shown-roots (owned_in d) (λ c. stacked_popups (owned_in d c)) (map (root_of (owned_in d)) d.standing)
