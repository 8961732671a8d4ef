-- Laws of which surfaces are subsurfaces, whatever happens: of those that have an xdg_surface none (wayland.xml, wl_surface: a surface has
-- one role; wl_subcompositor.get_subsurface and xdg_wm_base.get_xdg_surface refuse a surface with another).
use Rattle.std.specs.Prelude.{ℕ, ◌≡◌, ◌≤◌, ◌==◌, true, Some, List, is_some}
use Rattle.std.specs.List.{list_any}
use Rattle.wl_proto.specs.declared.interface.Interface.TheVariants.{WlSubsurface}
use Rattle.spec_desktop.specs.Objects.{is_of}
use Rattle.spec_desktop.specs.Told.{Output}
use Rattle.wl_surface.specs.Surfaces.{Link, surface_at}
use Rattle.wl_shell.specs.Shell.{xdg_of}
use Rattle.wl_surface.specs.Hanging.{AreNumbered, AreTied}
use Rattle.wl_surface.specs.TreeLaws.{AreOnceLinked}
use Rattle.spec_desktop.specs.declared.answers.Done.{Done}
use Rattle.spec_desktop.specs.Act.{Act}
use Rattle.spec_desktop.specs.Desktop.{Desktop, Resident, Subsurface, client_at, empty, owned_in}
use Rattle.spec_desktop.specs.WlSubsurface.{has_subsurface, is_of_child, subsurface_at}
use Rattle.law_desktop.specs.Apart.{AreApartBy}
use Rattle.law_desktop.specs.RunLaws.{Lasts}
use Rattle.law_desktop.specs.Soundness.{IsLive, IsNoChild}

-- A surface that has an xdg_surface is no child by a link that lives.
abbrev pub XdgSurfacesAreRoots : Type 0
XdgSurfacesAreRoots =
    (output : Output) (acts : List Act) (dones : List Done) (d : Desktop) → Lasts acts dones (empty output) d
    → (c surface : ℕ) → is_some (xdg_of surface (owned_in d c).shell) ≡ true → IsNoChild surface (owned_in d c).surfaces

-- one of a client's wl_subsurfaces has this link, and names its child
pub record HasSubsurface (r : Resident) (number child : ℕ) : Type 0 where
  pub subsurface : Subsurface
  pub here : subsurface_at subsurface.id r ≡ Some subsurface
  pub lives : is_of WlSubsurface (r.peer.objects subsurface.id) ≡ true
  pub link : subsurface.link ≡ number
  pub surface : subsurface.surface ≡ Some child

-- Each link of a client that lives is that of one of its wl_subsurfaces, which is live and names the link's child.
abbrev pub LinksHaveSubsurfaces : Type 0
LinksHaveSubsurfaces =
    (output : Output) (acts : List Act) (dones : List Done) (d : Desktop) → Lasts acts dones (empty output) d
    → (c : ℕ) (r : Resident) → client_at c d ≡ Some r
    → (number : ℕ) (link : Link) → IsLive number link r.owned.surfaces → HasSubsurface r number link.child

-- The links of a client are told apart by their numbers, and those that live by their children.
abbrev pub LinksAreApart : Type 0
LinksAreApart =
    (output : Output) (acts : List Act) (dones : List Done) (d : Desktop) → Lasts acts dones (empty output) d
    → (c : ℕ) → AreNumbered (owned_in d c).surfaces.links × AreOnceLinked (owned_in d c).surfaces.links

-- no two of a client's wl_subsurfaces have the same id, the same link or the same surface; no link has a number past that of the last
-- request; and each surface is there
pub record AreOwnSubsurfaces (r : Resident) : Type 0 where
  pub ids : AreApartBy (λ id s. s.id == id) r.subsurfaces
  pub links : AreApartBy (λ number s. s.link == number) r.subsurfaces
  pub surfaces : AreApartBy (λ surface s. is_of_child surface s.surface) r.subsurfaces
  pub early : (number : ℕ) → list_any (λ s. s.link == number) r.subsurfaces ≡ true → number ≤ r.peer.requests
  pub there : (surface : ℕ) → has_subsurface surface r ≡ true → is_some (surface_at surface r.owned.surfaces) ≡ true

-- The links and the surfaces of a client hang together: of the links that live a surface's requests name those to its own children alone,
-- and each is named by those of its parent, which is there; and no more counts than was committed (wayland.xml, wl_subsurface).
abbrev pub SurfacesAreTied : Type 0
SurfacesAreTied =
    (output : Output) (acts : List Act) (dones : List Done) (d : Desktop) → Lasts acts dones (empty output) d
    → (c : ℕ) → AreTied (owned_in d c).surfaces
