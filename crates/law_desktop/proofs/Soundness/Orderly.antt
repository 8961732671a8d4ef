-- What every desktop that is reached keeps of each client. It is why no surface gets two windows.
use Rattle.std.proofs.Common.{◌≡◌, ℕ, ◌≤◌, ◌<◌, ◌+◌, Bool, true, false, List, [], Option, Some, None}
use Rattle.std.specs.Prelude.{◌==◌, ◌&&◌, ◌⊎◌, is_some, not, take}
use Rattle.std.specs.List.{list_any}
use Rattle.std.specs.Option.{option_and_then}
use Rattle.wl_proto.specs.declared.interface.Interface.{Interface}
use Rattle.wl_proto.specs.declared.interface.Interface.TheVariants.{WlCallback, WlRegion, WlShmPool, WlBuffer, WlSurface, WlSubcompositor, WlSubsurface, XdgWmBase, XdgPositioner, XdgSurface}
use Rattle.wl_proto.specs.declared.interface.Interface.TheVariants.{XdgToplevel, XdgPopup}
use Rattle.spec_desktop.specs.declared.actions.Action.{Action}
use Rattle.spec_desktop.specs.declared.actions.Action.TheVariants.{GetRegistry, Bind, CreateRegion, DestroyRegion, CreatePool, CreateBuffer, DestroyPool, DestroyBuffer, CreatePositioner, DestroyPositioner}
use Rattle.spec_desktop.specs.declared.cause.Cause.{Cause}
use Rattle.spec_desktop.specs.Judgement.{is_free}
use Rattle.spec_desktop.specs.Objects.{is_of}
use Rattle.wl_surface.specs.Request.{Request, Child, AddChild, PlaceAbove, PlaceBelow}
use Rattle.wl_surface.specs.State.{History, is_member, order}
use Rattle.wl_surface.specs.Surfaces.{Link, Surfaces, history_in, link_at, surface_at}
use Rattle.wl_surface.specs.Trees.{is_bad_parent, is_too_deep}
use Rattle.wl_surface.specs.declared.role.Role.{Role}
use Rattle.wl_surface.specs.declared.role.Role.TheVariants.{Subsurface as AsSubsurface}
use Rattle.wl_shell.specs.Popups.{is_toplevel_kind}
use Rattle.wl_shell.specs.Shell.{Mapped, RoleObject, Shell, Toplevel, XdgSurface as Xdg, xdg_at, xdg_of, xdg_with}
use Rattle.spec_desktop.specs.Stacking.{Standing}
use Rattle.spec_desktop.specs.Ask.{Ask, Own, CreateSurface, AskSurface, EndObject, GetXdgSurface, DestroyXdgSurface, GetToplevel, Acknowledge, ConfigureAgain, Ignore}
use Rattle.spec_desktop.specs.Demand.{Demand, Asks, EndSurface, AskFrame, CommitTree, GetSubsurface, EndSubsurface, SetMode, GetPointer, MakeCursor}
use Rattle.spec_desktop.specs.Demand.{GetPopup, Grab, EndPopup, EndToplevel, Move}
use Rattle.spec_desktop.specs.Desktop.{Desktop, Resident, client_at, toplevels_of}
use Rattle.law_desktop.specs.Laws.{AreApart}
use Rattle.law_desktop.specs.Apart.{AreApartBy, AreObjects}
use Rattle.law_desktop.specs.Soundness.{AreOnce, IsLive}
use Rattle.spec_desktop.specs.WlPointer.{is_no_cursor}
use Rattle.spec_desktop.specs.WlSubsurface.{has_subsurface, is_no_subsurface, is_of_child}
use Rattle.spec_desktop.specs.XdgShell.{is_foreign, role_of}
use Rattle.spec_desktop.specs.Demand.{Reposition}

-- ---- objects

-- the role object with this id is a toplevel, or a popup
abbrev pub is_toplevel_at : ℕ → Option RoleObject → Bool
is_toplevel_at id None = false
is_toplevel_at id (Some object) = (object.id == id) && is_toplevel_kind object.kind

abbrev pub is_popup_at : ℕ → Option RoleObject → Bool
is_popup_at id None = false
is_popup_at id (Some object) = (object.id == id) && not (is_toplevel_kind object.kind)

-- What a client owns is known by the ids of its objects.
pub record HasObjects (r : Resident) : Type 0 where
  pub surfaces : (id : ℕ) → is_of WlSurface (r.peer.objects id) ≡ true → is_some (surface_at id r.owned.surfaces) ≡ true
  pub subsurfaces : AreObjects WlSubsurface r.peer.objects (λ id s. s.id == id) r.subsurfaces
  pub shell : AreObjects XdgSurface r.peer.objects (λ id x. x.id == id) r.owned.shell
  pub toplevels : AreObjects XdgToplevel r.peer.objects (λ id x. is_toplevel_at id x.role) r.owned.shell
  pub popups : AreObjects XdgPopup r.peer.objects (λ id x. is_popup_at id x.role) r.owned.shell
  pub callbacks : AreObjects WlCallback r.peer.objects (λ id callback. callback.id == id) r.callbacks

-- ---- links

-- a child stands in an order
abbrev pub has_child : ℕ → ℕ → History → Bool
has_child number counting h = list_any (is_member (Child number)) (order (take counting h.requests))

-- The links make trees, of at most 17 levels; their numbers, and those that orders name, are below this one.
pub record IsForest (bound : ℕ) (all : Surfaces) : Type 0 where
  pub apart : AreApartBy (λ number l. l.number == number) all.links
  pub early : (number : ℕ) (link : Link) → link_at number all ≡ Some link → number < bound
  pub once : (k l : ℕ) (a b : Link) → IsLive k a all → IsLive l b all → a.child ≡ b.child → k ≡ l
  pub ordered : (surface counting : ℕ) (h : History) → history_in surface all ≡ Some h → AreOnce is_member (order (take counting h.requests))
  pub members : (surface counting number : ℕ) (h : History) → history_in surface all ≡ Some h → has_child number counting h ≡ true → number < bound
  pub parents :
      (surface counting number : ℕ) (h : History) (link : Link) → history_in surface all ≡ Some h → has_child number counting h ≡ true
      → IsLive number link all → link.parent ≡ surface
  pub rank : ℕ → ℕ
  pub rises : (number : ℕ) (link : Link) → IsLive number link all → rank link.parent < rank link.child
  pub low : (surface : ℕ) → rank surface ≤ 16

-- ---- roles

-- A child is a subsurface, known by its wl_subsurface, and has no xdg_surface; and no surface has two of these.
pub record HasRoles (r : Resident) : Type 0 where
  pub children : (number : ℕ) (link : Link) → IsLive number link r.owned.surfaces → role_of r link.child ≡ Some AsSubsurface
  pub bare : (number : ℕ) (link : Link) → IsLive number link r.owned.surfaces → xdg_of link.child r.owned.shell ≡ None
  pub named :
      (number : ℕ) (link : Link) → IsLive number link r.owned.surfaces
      → list_any (λ s. (s.link == number) && is_of_child link.child s.surface) r.subsurfaces ≡ true
  pub apart : AreApartBy (λ surface x. x.surface == surface) r.owned.shell

-- ---- toplevels

abbrev pub IsMappedRole : Option RoleObject → Type 0
IsMappedRole None = ⊥
IsMappedRole (Some object) = (object.kind ≡ Toplevel) × (object.stage ≡ Mapped)

abbrev pub IsMapped : Option Xdg → Type 0
IsMapped None = ⊥
IsMapped (Some x) = IsMappedRole x.role

-- What stands of a client is mapped, and stands once.
pub record StandsSo (shell : Shell) (tops : List Standing) : Type 0 where
  pub apart : AreApart tops
  pub mapped : (surface : ℕ) → list_any (λ s. s.surface == surface) tops ≡ true → IsMapped (xdg_of surface shell)

-- ---- a client

pub record IsOrderly (bound : ℕ) (r : Resident) (tops : List Standing) : Type 0 where
  pub objects : HasObjects r
  pub forest : IsForest bound r.owned.surfaces
  pub roles : HasRoles r
  pub standing : StandsSo r.owned.shell tops

-- of one that ended, nothing stands
abbrev pub IsOrderlyBy : Option Cause → Resident → List Standing → Type 0
IsOrderlyBy None r tops = IsOrderly (r.peer.requests + 1) r tops
IsOrderlyBy (Some cause) r tops = IsOrderly (r.peer.requests + 1) r tops × (tops ≡ [])

abbrev pub IsOrderlyAt : Option Resident → List Standing → Type 0
IsOrderlyAt None tops = tops ≡ []
IsOrderlyAt (Some r) tops = IsOrderlyBy r.peer.status r tops

abbrev pub AreOrderly : Desktop → Type 0
AreOrderly d = (c : ℕ) → IsOrderlyAt (client_at c d) (toplevels_of c d)

-- ---- what is demanded

-- a request that names a child is of its parent
abbrev pub IsOfParent : ℕ → ℕ → Surfaces → Type 0
IsOfParent number surface all = (link : Link) × IsLive number link all × (link.parent ≡ surface)

abbrev pub IsAskable : ℕ → Surfaces → Request → Type 0
IsAskable surface all (AddChild number) = ⊥
IsAskable surface all (PlaceAbove number at) = IsOfParent number surface all
IsAskable surface all (PlaceBelow number at) = IsOfParent number surface all
IsAskable surface all request = Unit {0}

-- the xdg_surface of this id has no role object
abbrev pub HasNoRole : Option Xdg → Type 0
HasNoRole None = ⊥
HasNoRole (Some x) = x.role ≡ None

-- this xdg_surface has the role object
abbrev pub HasId : ℕ → Option Xdg → Type 0
HasId xdg None = ⊥
HasId xdg (Some x) = x.id ≡ xdg

-- and it is that of this surface
abbrev pub IsOn : ℕ → Option Xdg → Type 0
IsOn surface None = ⊥
IsOn surface (Some x) = x.surface ≡ surface

abbrev pub IsObject : Interface → ℕ → Resident → Type 0
IsObject interface id r = is_of interface (r.peer.objects id) ≡ true

abbrev pub IsNew : ℕ → Resident → Type 0
IsNew id r = is_free r.peer.objects id ≡ true

-- a global that is bound is no wl_surface
abbrev pub is_no_surface : Interface → Bool
is_no_surface WlSurface = false
is_no_surface interface = true

abbrev pub IsOwn : Resident → Action → Type 0
IsOwn r (GetRegistry id) = IsNew id r
IsOwn r (Bind id interface version) = IsNew id r × (is_no_surface interface ≡ true)
IsOwn r (CreateRegion id version) = IsNew id r
IsOwn r (CreatePool id version size) = IsNew id r
IsOwn r (CreateBuffer id version laid) = IsNew id r
IsOwn r (DestroyRegion id) = IsObject WlRegion id r
IsOwn r (DestroyPool id store) = IsObject WlShmPool id r
IsOwn r (DestroyBuffer id store) = IsObject WlBuffer id r
IsOwn r (CreatePositioner id version) = IsNew id r
IsOwn r (DestroyPositioner id) = IsObject XdgPositioner id r
IsOwn r action = Unit {0}

abbrev pub IsAsked : Resident → Ask → Type 0
IsAsked r (Own action) = IsOwn r action
IsAsked r (CreateSurface id version) = IsNew id r
IsAsked r (AskSurface id request) = IsAskable id r.owned.surfaces request
IsAsked r (EndObject id) = IsObject XdgWmBase id r ⊎ IsObject WlSubcompositor id r
IsAsked r (GetXdgSurface id version base surface) =
    IsNew id r × (is_foreign (role_of r surface) ≡ false) × (xdg_of surface r.owned.shell ≡ None)
IsAsked r (DestroyXdgSurface id) = IsObject XdgSurface id r × HasNoRole (xdg_at id r.owned.shell)
IsAsked r (GetToplevel id version xdg) = IsNew id r × HasNoRole (xdg_at xdg r.owned.shell)
IsAsked r (Acknowledge xdg serial) = Unit {0}
IsAsked r (ConfigureAgain xdg) = Unit {0}
IsAsked r Ignore = Unit {0}

-- What is known of an accepted message: the object that it makes has a new id, the one that it takes away is of its interface, and the errors
-- that it could have had it hasn't.
abbrev pub IsAllowed : Resident → Demand → Type 0
IsAllowed r (Asks ask) = IsAsked r ask
IsAllowed r (EndSurface id) = IsObject WlSurface id r × (xdg_of id r.owned.shell ≡ None)
IsAllowed r (AskFrame id version surface) = IsNew id r
IsAllowed r (CommitTree surface) = Unit {0}
IsAllowed r (GetSubsurface id version child parent) =
    IsNew id r × IsObject WlSurface child r × (is_no_subsurface (role_of r child) ≡ false) × (has_subsurface child r ≡ false)
    × (xdg_of child r.owned.shell ≡ None) × (is_too_deep r.owned.surfaces child parent ≡ false) × (is_bad_parent r.owned.surfaces child parent ≡ false)
IsAllowed r (EndSubsurface id) = IsObject WlSubsurface id r
IsAllowed r (SetMode link synchronised) = Unit {0}
IsAllowed r (GetPointer id version) = IsNew id r
IsAllowed r (MakeCursor surface) = (is_no_cursor (role_of r surface) ≡ false) × (xdg_of surface r.owned.shell ≡ None)
IsAllowed r (GetPopup id version xdg parent p) = IsNew id r × HasNoRole (xdg_at xdg r.owned.shell)
IsAllowed r (Reposition xdg token p) = Unit {0}
IsAllowed r (Grab xdg serial) = Unit {0}
IsAllowed r (EndPopup id xdg) = IsObject XdgPopup id r × HasId xdg (xdg_with id r.owned.shell)
IsAllowed r (EndToplevel id xdg top) = IsObject XdgToplevel id r × HasId xdg (xdg_with id r.owned.shell) × IsOn top (xdg_with id r.owned.shell)
IsAllowed r (Move surface serial) = Unit {0}

-- ---- what is done to surfaces

abbrev pub role_in : ℕ → Surfaces → Option Role
role_in id all = option_and_then (λ s. s.role) (surface_at id all)

-- The links that live lived before, of the same surfaces.
abbrev pub KeepsLinks : Surfaces → Surfaces → Type 0
KeepsLinks old new =
    (number : ℕ) (link : Link) → IsLive number link new → (l : Link) × IsLive number l old × (l.child ≡ link.child) × (l.parent ≡ link.parent)

-- Each surface is there as before, with its role.
pub record KeepsSurfaces (old new : Surfaces) : Type 0 where
  pub there : (id : ℕ) → is_some (surface_at id new) ≡ is_some (surface_at id old)
  pub roles : (id : ℕ) → role_in id new ≡ role_in id old

-- The same links live with the same ends, and each surface is there as before, with its role.
pub record KeepsTrees (old new : Surfaces) : Type 0 where
  pub links : KeepsLinks old new
  pub surfaces : KeepsSurfaces old new
