-- The roots of the windows of a toplevel, by what is kept of a client. Its surfaces are named by their numbers.
use Rattle.std.specs.Prelude.{ℕ, ℤ, ◌≡◌, ◌==◌, ◌&&◌, Bool, true, false, not, nat_le, nat_lt, is_some, Option, Some, None, IfSome}
use Rattle.std.specs.Prelude.{List, [], ◌∷◌, ◌++◌, filter, map}
use Rattle.std.specs.Option.{option_and_then, option_map_or}
use Rattle.wl_links.specs.Family.{Tied}
use Rattle.wl_geom.specs.declared.rect.Rect.{Rect}
use Rattle.wl_surface.specs.Linked.{Stand}
use Rattle.wl_scene.specs.declared.roots.RootPlace.{RootPlace}
use Rattle.wl_shell.specs.Agreement.{IsShell}
use Rattle.wl_shell.specs.PopupsKept.{has_popup}
use Rattle.spec_desktop.specs.Popups.{placement_of, stacked_popup, surface_at_xdg}
use Rattle.spec_desktop.specs.Stacking.{Owned, Standing}
use Rattle.spec_desktop.specs.Windows.{Place, Root, StackedPopup, corner_at, roots_of}
use Rattle.wl_surface.specs.State.{History}
use Rattle.wl_surface.specs.Slots.{Slots}
use Rattle.wl_surface.specs.Surfaces.{history_in}
use Rattle.wl_shell.specs.Kept.{Book, Kept, kept_of, stage_in}
use Rattle.wl_shell.specs.Popups.{Popped, is_mapped_stage, popups_of}
use Rattle.wl_shell.specs.Shell.{Popup}

-- What is kept stands for what a client owns.
pub record IsHeld (slots : Slots) (tied : Tied) (book : Book) (o : Owned) : Type 0 where
  pub surfaces : Stand slots tied o.surfaces
  pub shell : IsShell (kept_of book) (λ number. history_in number o.surfaces) o.shell

-- the corner of a surface that is placed there, by its history, if it has one
abbrev pub corner_or : Place → Option History → Place
corner_or place None = place
corner_or place (Some h) = corner_at place h

-- the window geometry of a surface that counts, by what is kept
abbrev pub kept_geometry : Book → ℕ → Option Rect
kept_geometry book surface = option_and_then (λ k. k.applied) (kept_of book surface)

-- ---- roots

-- what is told of a root
abbrev pub told_root : Root → RootPlace
told_root r = record { surface = r.surface; x = r.place.x; y = r.place.y }

abbrev pub listed : Option RootPlace → List RootPlace
listed None = []
listed (Some root) = root ∷ []

-- the window geometries of these roots count
abbrev pub AreAt : Book → List Root → Type 0
AreAt book [] = Unit {0}
AreAt book (r ∷ rs) = (r.geometry ≡ kept_geometry book r.surface) × AreAt book rs

-- the xdg_surface of a surface, if there is one, has a role object
abbrev pub HasRole : Book → ℕ → Type 0
HasRole book surface = IfSome (kept_of book surface) (λ k. is_some k.role ≡ true)

-- the toplevel of a surface that stands there
abbrev pub standing_at : ℕ → ℕ → ℤ → ℤ → Standing
standing_at client surface x y = record { client = client; surface = surface; place = record { x = x; y = y } }

-- ---- popups

abbrev pub is_mapped : Kept → Bool
is_mapped k = option_map_or is_mapped_stage (stage_in k) false

-- a popup that is mapped and not dismissed
abbrev pub shows_popup : Kept → Bool
shows_popup k = is_mapped k && has_popup (λ popup. not popup.is_dismissed) k

-- the surface of a popup's parent, if it has one
abbrev pub parent_surface : Owned → Popup → Option ℕ
parent_surface o popup = option_and_then (λ xdg. surface_at_xdg xdg o.shell) popup.parent

-- the root is that of this surface
abbrev pub is_root_of : Option ℕ → RootPlace → Bool
is_root_of surface root = option_map_or (λ surface. root.surface == surface) surface false

-- the number is above the last one, if there is one
abbrev pub is_past : Option ℕ → ℕ → Bool
is_past None number = true
is_past (Some last) number = nat_lt last number

-- the popup is one of those up to the last one
abbrev pub is_done : Option ℕ → Popped → Bool
is_done None p = false
is_done (Some last) p = nat_le p.popup.number last

-- a toplevel with those of its popups
abbrev pub roots_done : Owned → Root → Option ℕ → List Root
roots_done o toplevel last = roots_of o.surfaces toplevel (map (stacked_popup o) (filter (is_done last) (popups_of o.shell)))

-- some more came behind, or none
abbrev pub Continues : List RootPlace → List RootPlace → Type 0
Continues old new = (more : List RootPlace) × (new ≡ old ++ more)

-- the popup of what is kept under the number of this surface is stacked so
pub record IsStackedAs (o : Owned) (surface : ℕ) (k : Kept) (popup : Popup) (p : StackedPopup) : Type 0 where
  pub of_surface : p.surface ≡ surface
  pub parent : p.parent ≡ parent_surface o popup
  pub placement : p.placement ≡ placement_of popup.placement
  pub geometry : p.geometry ≡ k.applied
  pub is_mapped : p.is_mapped ≡ true
