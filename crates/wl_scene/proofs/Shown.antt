-- Each window of a desktop shows what counts of a surface that is there.
use Rattle.std.proofs.Common.{◌≡◌, ℕ, zero, suc, Bool, true, false, Option, Some, None, List, [], map, refl}
use Rattle.std.specs.Prelude.{◌+ℤ◌, if◌then◌else◌}
use Rattle.std.specs.List.{AllByRecursion as Each}
use Rattle.wl_surface.specs.Request.{Buffer, Child, Itself, Member}
use Rattle.wl_surface.specs.State.{History, applied, counting, order, position}
use Rattle.wl_surface.specs.Surfaces.{Link, Surfaces, history_in, link_at}
use Rattle.spec_desktop.specs.Stacking.{root_of}
use Rattle.spec_desktop.specs.Windows.{Owner, Place, Root, StackedPopup, Window, child_windows, corner_at, member_windows, owner_of}
use Rattle.spec_desktop.specs.Windows.{roots_of, shown_windows, surface_windows, tree, window_with, windows_of}
use Rattle.spec_desktop.specs.Desktop.{Desktop, owned_in}
use Rattle.spec_desktop.specs.Popups.{stacked_popups}
use Rattle.spec_desktop.specs.Stacked.{all_windows}
use Rattle.wl_scene.specs.Hit.{ShowsSurface}
use Rattle.wl_scene.proofs.Truth.{each-flat}

module _ (surfaces : ℕ → Surfaces) where
  -- it is among its client's
  abbrev pub IsShown : Window → Type 0
  IsShown w = ShowsSurface (surfaces w.owner.client) w

  module _ (owner : Owner) where
    abbrev all : Surfaces
    all = surfaces owner.client

    own-shown : (surface : ℕ) (corner : Place) (h : History) (o : Option Buffer) → history_in surface all ≡ Some h → (applied h).buffer ≡ o
        → Each IsShown (window_with owner surface corner (applied h) o)
    own-shown surface corner h None found e = tt
    own-shown surface corner h (Some b) found e = (record { history = h; found = found; buffer = e; shows = refl }, tt)

    child-shown : (next : ℕ → Place → List Window) → ((child : ℕ) (at : Place) → Each IsShown (next child at)) → (parent : History) (corner : Place) (l : ℕ) (o : Option Link)
        → Each IsShown (child_windows next parent corner l o)
    child-shown next each parent corner l None = tt
    child-shown next each parent corner l (Some link) = by link.has_ended
      where
        place : Place
        place = record { x = corner.x +ℤ (position l (counting parent)).0; y = corner.y +ℤ (position l (counting parent)).1 }

        by : (b : Bool) → Each IsShown (if b then [] else next link.child place)
        by true = tt
        by false = each link.child place

    member-shown : (next : ℕ → Place → List Window) → ((child : ℕ) (at : Place) → Each IsShown (next child at)) → (surface : ℕ) (h : History) (corner : Place)
        → history_in surface all ≡ Some h → (m : Member) → Each IsShown (member_windows next owner all surface h corner m)
    member-shown next each surface h corner found Itself = own-shown surface corner h (applied h).buffer found refl
    member-shown next each surface h corner found (Child l) = child-shown next each h corner l (link_at l all)

    surface-shown : (next : ℕ → Place → List Window) → ((child : ℕ) (at : Place) → Each IsShown (next child at)) → (surface : ℕ) (place : Place) (o : Option History)
        → history_in surface all ≡ o → Each IsShown (surface_windows next owner all surface place o)
    surface-shown next each surface place None found = tt
    surface-shown next each surface place (Some h) found = by (applied h).buffer
      where
        by : (buffer : Option Buffer) → Each IsShown (shown_windows next owner all surface h (corner_at place h) buffer)
        by None = tt
        by (Some buffer) =
            each-flat IsShown (member_windows next owner all surface h (corner_at place h)) (member-shown next each surface h (corner_at place h) found) (order (counting h))

    tree-shown : (levels surface : ℕ) (place : Place) → Each IsShown (tree levels owner all surface place)
    unfolding tree
    tree-shown zero surface place = tt
    tree-shown (suc levels) surface place =
        surface-shown (λ child at. tree levels owner all child at) (λ child at. tree-shown levels child at) surface place (history_in surface all) refl

  -- those of a toplevel and of its popups
  toplevel-shown : (popups : ℕ → List StackedPopup) (toplevel : Root) → Each IsShown (windows_of surfaces popups toplevel)
  toplevel-shown popups toplevel =
      each-flat IsShown (λ (r : Root). tree 17 (owner_of r) (surfaces r.client) r.surface r.place) (λ (r : Root). tree-shown (owner_of r) 17 r.surface r.place)
      (roots_of (surfaces toplevel.client) toplevel (popups toplevel.client))

pub all-shown : (d : Desktop) → Each (IsShown (λ c. (owned_in d c).surfaces)) (all_windows d)
all-shown d =
    each-flat (IsShown (λ c. (owned_in d c).surfaces)) (windows_of (λ c. (owned_in d c).surfaces) (λ c. stacked_popups (owned_in d c)))
    (toplevel-shown (λ c. (owned_in d c).surfaces) (λ c. stacked_popups (owned_in d c))) (map (root_of (owned_in d)) d.standing)
