-- What a client owns, and which of its toplevels stand where.
use Rattle.std.specs.Prelude.{ℕ, ◌≡◌, ◌==◌, ◌&&◌, not, if◌then◌else◌, Option, Some, None, List, [], ◌∷◌, ◌++◌, map, filter, Bool, true}
use Rattle.std.specs.Prelude.{false}
use Rattle.std.specs.List.{All}
use Rattle.std.specs.Option.{option_and_then}
use Rattle.wl_geom.specs.declared.rect.Rect.{Rect}
use Rattle.wl_surface.specs.State.{History, applied, geometry}
use Rattle.wl_surface.specs.Surface.{is_there}
use Rattle.wl_surface.specs.Surfaces.{Surfaces, history_in, no_surfaces}
use Rattle.wl_shell.specs.Shell.{Shell, XdgSurface, xdg_of}
use Rattle.spec_desktop.specs.Windows.{Place, Root, Window, mapping_place, windows}

-- a client's surfaces and its xdg_surfaces
pub record Owned : Type 0 where
  pub surfaces : Surfaces
  pub shell : Shell

abbrev pub nothing_owned : Owned
nothing_owned = record { surfaces = no_surfaces; shell = [] }

-- a mapped toplevel: whose it is, its surface, and where it stands
pub record Standing : Type 0 where
  pub client : ℕ
  pub surface : ℕ
  pub place : Place

-- a toplevel that is mapped stands on top of the others, in the next place
abbrev pub with_mapped : ℕ → ℕ → ℕ → List Standing → List Standing
with_mapped mappings client surface standing =
    standing ++ record { client = client; surface = surface; place = mapping_place mappings } ∷ []

abbrev pub is_of : ℕ → ℕ → Standing → Bool
is_of client surface s = (s.client == client) && (s.surface == surface)

abbrev pub without_surface_of : ℕ → ℕ → List Standing → List Standing
without_surface_of client surface standing = filter (λ s. not (is_of client surface s)) standing

-- the toplevel of this surface on top of the others
abbrev pub raised : ℕ → ℕ → List Standing → List Standing
raised client surface [] = []
raised client surface (s ∷ ss) = if is_of client surface s then ss ++ s ∷ [] else s ∷ raised client surface ss

-- the toplevel of this surface at another place
abbrev pub moved_to : ℕ → ℕ → Place → List Standing → List Standing
moved_to client surface place [] = []
moved_to client surface place (s ∷ ss) =
    if is_of client surface s then record s { place = place } ∷ ss else s ∷ moved_to client surface place ss

abbrev pub without_client : ℕ → List Standing → List Standing
without_client client standing = filter (λ s. not (s.client == client)) standing

abbrev pub geometry_since : History → XdgSurface → Option Rect
geometry_since h x = geometry x.since h

-- the window geometry of a surface that counts
abbrev pub geometry_in : Owned → ℕ → Option Rect
geometry_in owned surface =
    option_and_then (λ h. option_and_then (geometry_since h) (xdg_of surface owned.shell)) (history_in surface owned.surfaces)

abbrev pub root_of : (ℕ → Owned) → Standing → Root
root_of owned s =
    record {
      client = s.client;
      surface = s.surface;
      toplevel = s.surface;
      geometry = geometry_in (owned s.client) s.surface;
      place = s.place;
    }

-- The windows of these toplevels' own trees, from the bottom.
abbrev pub windows_on : (ℕ → Owned) → List Standing → List Window
windows_on owned standing = windows (λ client. (owned client).surfaces) (λ client. []) (map (root_of owned) standing)

-- the surface is there and shows a buffer
abbrev pub shows_buffer : Option History → Bool
shows_buffer None = false
shows_buffer (Some h) = is_there (applied h).buffer

abbrev pub Shows : (ℕ → Owned) → Standing → Type 0
Shows owned s = shows_buffer (history_in s.surface (owned s.client).surfaces) ≡ true

-- the surface of each of these toplevels does
abbrev pub AllShow : (ℕ → Owned) → List Standing → Type 0
AllShow owned standing = All (Shows owned) standing
