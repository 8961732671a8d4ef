-- What holds of every client wherever nobody points, with subsurfaces and with popups. Each step keeps it, and each
-- message by itself.
use Rattle.std.specs.Prelude.{ℕ, ◌≡◌, ◌≤◌, ◌<◌, ◌==◌, ◌&&◌, Bool, true, false, is_some, not, Option, Some, None, List, [], ◌∷◌, take}
use Rattle.std.specs.List.{list_any}
use Rattle.wl_proto.specs.declared.interface.Interface.TheVariants.{WlCallback, WlSubsurface, WlSurface, XdgPopup, XdgSurface, XdgToplevel}
use Rattle.spec_desktop.specs.declared.cause.Cause.{Cause}
use Rattle.spec_desktop.specs.Objects.{is_of}
use Rattle.wl_surface.specs.declared.role.Role.TheVariants.{Subsurface as AsSubsurface}
use Rattle.wl_surface.specs.Request.{Child}
use Rattle.wl_surface.specs.State.{History, is_member, order}
use Rattle.wl_surface.specs.Surfaces.{Link, history_in, link_at, surface_at}
use Rattle.wl_surface.specs.Hanging.{AreNumbered, AreTied}
use Rattle.wl_surface.specs.TreeLaws.{AreOnceLinked}
use Rattle.wl_shell.specs.Popups.{Popped, is_toplevel_kind}
use Rattle.wl_shell.specs.Shell.{IsPopup, Kind, RoleObject, Toplevel, xdg_of}
use Rattle.spec_desktop.specs.Pointer.{first_pointer}
use Rattle.spec_desktop.specs.Stacking.{Standing}
use Rattle.spec_desktop.specs.Demand.{Demand, EndToplevel, Grab}
use Rattle.spec_desktop.specs.Desktop.{Desktop, Resident, client_at, resident_of, toplevels_of}
use Rattle.spec_desktop.specs.WlSubsurface.{has_subsurface, is_of_child}
use Rattle.spec_desktop.specs.XdgShell.{role_of}
use Rattle.law_desktop.specs.Apart.{AreApartBy, AreObjects}
use Rattle.law_desktop.specs.Soundness.{AreTrees, IsLive, IsNoChild}
use Rattle.law_desktop.specs.OneBuffer.{HasOneBuffer}
use Rattle.law_desktop.specs.Standing.{AreMappedOnce}
use Rattle.law_desktop.specs.Roots.{AreOwnSubsurfaces, HasSubsurface}

-- ---- role objects

-- the role object with this id is a toplevel
abbrev pub is_toplevel_with : ℕ → Option RoleObject → Bool
is_toplevel_with id None = false
is_toplevel_with id (Some object) = (object.id == id) && is_toplevel_kind object.kind

-- the role object with this id is a popup
abbrev pub is_popup_with : ℕ → Option RoleObject → Bool
is_popup_with id None = false
is_popup_with id (Some object) = (object.id == id) && not (is_toplevel_kind object.kind)

-- the popup of this number among the popups in order of creation
abbrev pub is_kind_numbered : ℕ → Kind → Bool
is_kind_numbered number Toplevel = false
is_kind_numbered number (IsPopup popup) = popup.number == number

abbrev pub is_popup_numbered : ℕ → Option RoleObject → Bool
is_popup_numbered number None = false
is_popup_numbered number (Some object) = is_kind_numbered number object.kind

-- each popup of these has a lower number than those after it
abbrev pub AreRising : List Popped → Type 0
AreRising [] = Unit {0}
AreRising (p ∷ ps) =
    ((number : ℕ) → list_any (λ q. q.popup.number == number) ps ≡ true → p.popup.number < number) × AreRising ps

-- ---- what dismisses popups

-- a grab, where it is refused, and the end of a toplevel (xdg-shell.xml, xdg_popup.grab, xdg_popup.popup_done)
abbrev pub may_dismiss : Demand → Bool
may_dismiss (Grab xdg serial) = true
may_dismiss (EndToplevel id xdg surface) = true
may_dismiss demand = false

-- ---- a client that lives

-- A client's surfaces are told apart by their ids, which are those of wl_surfaces; its wl_subsurfaces and its frame callbacks by theirs,
-- which are those of wl_subsurfaces and wl_callbacks; and no two wl_subsurfaces are of one surface (wayland.xml,
-- wl_subcompositor.get_subsurface).
pub record OwnsKnown (r : Resident) : Type 0 where
  pub apart : AreApartBy (λ id s. s.id == id) r.owned.surfaces.surfaces
  pub known : (id : ℕ) → is_some (surface_at id r.owned.surfaces) ≡ true → is_of WlSurface (r.peer.objects id) ≡ true
  pub subsurfaces : AreObjects WlSubsurface r.peer.objects (λ id s. s.id == id) r.subsurfaces
  pub children : AreApartBy (λ surface s. is_of_child surface s.surface) r.subsurfaces
  pub callbacks : AreObjects WlCallback r.peer.objects (λ id callback. callback.id == id) r.callbacks

-- What a client that lives owns is in order.
pub record OwnsInOrder (r : Resident) : Type 0 where
  -- its surfaces, wl_subsurfaces and frame callbacks are known by their ids
  pub known : OwnsKnown r
  -- the number of a wl_buffer determines it
  pub buffers : HasOneBuffer r
  -- the links and the surfaces hang together: of the links that live a surface's requests name those to its own children alone, and each
  -- is named by those of its parent, which is there
  pub tied : AreTied r.owned.surfaces
  -- the links that live make trees, of at most 17 levels (wayland.xml, wl_subcompositor.get_subsurface)
  pub trees : AreTrees r.owned.surfaces
  -- no two links have the same number, and no two that live the same child
  pub numbered : AreNumbered r.owned.surfaces.links
  pub once : AreOnceLinked r.owned.surfaces.links
  -- no link has a number past that of the last request, and no surface's order names a child by one
  pub early : (number : ℕ) (link : Link) → link_at number r.owned.surfaces ≡ Some link → number ≤ r.peer.requests
  pub members :
      (surface counting number : ℕ) (h : History) → history_in surface r.owned.surfaces ≡ Some h
      → list_any (is_member (Child number)) (order (take counting h.requests)) ≡ true → number ≤ r.peer.requests
  -- no two wl_subsurfaces have the same id, the same link or the same surface, and the surface of each is there
  pub own : AreOwnSubsurfaces r
  -- each link that lives has its wl_subsurface, which is live and names the link's child
  pub links : (number : ℕ) (link : Link) → IsLive number link r.owned.surfaces → HasSubsurface r number link.child
  -- a surface that has a wl_subsurface, inert or not, has the role subsurface, and no xdg_surface (wayland.xml, wl_surface: a surface has
  -- one role)
  pub roles : (surface : ℕ) → has_subsurface surface r ≡ true → role_of r surface ≡ Some AsSubsurface
  pub bare : (surface : ℕ) → has_subsurface surface r ≡ true → xdg_of surface r.owned.shell ≡ None
  -- a surface that has an xdg_surface is no child by a link that lives
  pub roots : (surface : ℕ) → is_some (xdg_of surface r.owned.shell) ≡ true → IsNoChild surface r.owned.surfaces
  -- each live wl_surface is there
  pub surfaces : (id : ℕ) → is_of WlSurface (r.peer.objects id) ≡ true → is_some (surface_at id r.owned.surfaces) ≡ true
  -- the xdg_surfaces, the toplevels and the popups are known by their ids, which are those of live objects of their interfaces
  pub xdg_surfaces : AreObjects XdgSurface r.peer.objects (λ id x. x.id == id) r.owned.shell
  pub toplevels : AreObjects XdgToplevel r.peer.objects (λ id x. is_toplevel_with id x.role) r.owned.shell
  pub popups : AreObjects XdgPopup r.peer.objects (λ id x. is_popup_with id x.role) r.owned.shell
  -- no two xdg_surfaces are of one surface
  pub xdg_apart : AreApartBy (λ surface x. x.surface == surface) r.owned.shell
  -- no two popups have one number in the order of their creation, and none has one past that of the last request
  pub popups_apart : AreApartBy (λ number x. is_popup_numbered number x.role) r.owned.shell
  pub popups_early : (number : ℕ) → list_any (λ x. is_popup_numbered number x.role) r.owned.shell ≡ true → number ≤ r.peer.requests

-- ---- a desktop

-- a client that ended owns nothing, and none of its toplevels stands; nor does one of a client that isn't there
abbrev pub InOrderBy : Option Cause → Resident → List Standing → Type 0
InOrderBy None r tops = OwnsInOrder r × AreMappedOnce r.owned.shell tops
InOrderBy (Some cause) r tops = (r ≡ resident_of r.peer) × (tops ≡ [])

abbrev pub InOrderAt : Option Resident → List Standing → Type 0
InOrderAt None tops = tops ≡ []
InOrderAt (Some r) tops = InOrderBy r.peer.status r tops

-- The pointer isn't anywhere, and what each client owns is in order, with its toplevels that stand.
pub record InOrder (d : Desktop) : Type 0 where
  pub pointer : d.pointer ≡ first_pointer
  pub each : (c : ℕ) → InOrderAt (client_at c d) (toplevels_of c d)
