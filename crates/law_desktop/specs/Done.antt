-- What is done for a client that demands something, and whose tree it touches (wayland.xml, wl_surface, wl_subcompositor and wl_subsurface;
-- xdg-shell.xml, xdg_surface, xdg_toplevel and xdg_popup).
use Rattle.std.specs.Prelude.{ℕ, ◌≡◌, ◌≢◌, true, false, Option, Some, None}
use Rattle.std.specs.Option.{option_map}
use Rattle.wl_surface.specs.Surfaces.{Link, link_at}
use Rattle.wl_shell.specs.Popups.{Popped, is_popup_mapped, is_toplevel, popup_at}
use Rattle.wl_shell.specs.Shell.{Shell, XdgSurface, xdg_at}
use Rattle.spec_desktop.specs.Ask.{DestroyXdgSurface, GetToplevel}
use Rattle.spec_desktop.specs.Changing.{changed_for, stacked_for}
use Rattle.spec_desktop.specs.Demand.{Demand, Asks, CommitTree, EndPopup, EndSubsurface, EndSurface, EndToplevel, GetPopup, Grab, SetMode}
use Rattle.spec_desktop.specs.Desktop.{Desktop, Resident, client_at, owned_in}
use Rattle.spec_desktop.specs.Stacked.{all_windows}
use Rattle.spec_desktop.specs.Step.{with_peer}
use Rattle.spec_desktop.specs.WlSubsurface.{link_of_subsurface}
use Rattle.spec_desktop.specs.Peer.{Peer}
use Rattle.law_desktop.specs.Changes.{HasTrees}
use Rattle.law_desktop.specs.StackedWith.{ChangesAt}

-- What is demanded was done for client c, which was so: it owns what is left of what it owned, the others own what they did, and those
-- toplevels stand that are left.
pub record IsDone (c : ℕ) (demand : Demand) (r : Resident) (d e : Desktop) : Type 0 where
  pub own : owned_in e c ≡ (changed_for c demand r d).owned
  pub others : (other : ℕ) → other ≢ c → owned_in e other ≡ owned_in d other
  pub stack : e.standing ≡ (stacked_for c demand r (all_windows d) d).standing

-- The surface whose tree's windows a demand may change, if there is one: that of a commit, one that goes, the child of a wl_subsurface that
-- goes or is desynchronised, and the surface of a toplevel or of a popup that goes. A wl_subsurface whose link has ended changes none.
abbrev pub touched_by : Demand → Resident → Option ℕ
touched_by (CommitTree surface) r = Some surface
touched_by (EndSurface id) r = Some id
touched_by (EndSubsurface id) r = option_map (λ (l : Link). l.child) (link_of_subsurface id r)
touched_by (SetMode link false) r = option_map (λ (l : Link). l.child) (link_at link r.owned.surfaces)
touched_by (EndToplevel id xdg surface) r = Some surface
touched_by (EndPopup id xdg) r = option_map (λ (x : XdgSurface). x.surface) (xdg_at xdg r.owned.shell)
touched_by demand r = None

-- the xdg_surface of this id is that of the surface, and has a toplevel
pub record HasToplevel (xdg surface : ℕ) (shell : Shell) : Type 0 where
  pub it : XdgSurface
  pub here : xdg_at xdg shell ≡ Some it
  pub own : it.surface ≡ surface
  pub role : is_toplevel (Some it) ≡ true

-- the xdg_surface of this id, if there is one, has no role object
abbrev pub HasNoRole : ℕ → Shell → Type 0
HasNoRole xdg shell = (x : XdgSurface) → xdg_at xdg shell ≡ Some x → x.role ≡ None

-- A demand is made as the protocol has it: a toplevel that goes is that of its xdg_surface and of its surface, a popup that asks for a grab
-- isn't mapped (xdg-shell.xml, xdg_popup.grab), and an xdg_surface that goes, or gets a toplevel or a popup, has no role object
-- (xdg-shell.xml, xdg_surface.destroy, xdg_surface.get_toplevel and xdg_surface.get_popup).
abbrev pub IsMeant : Demand → Resident → Type 0
IsMeant (EndToplevel id xdg surface) r = HasToplevel xdg surface r.owned.shell
IsMeant (Grab xdg serial) r = (p : Popped) → popup_at xdg r.owned.shell ≡ Some p → is_popup_mapped p ≡ false
IsMeant (Asks (DestroyXdgSurface id)) r = HasNoRole id r.owned.shell
IsMeant (Asks (GetToplevel id version xdg)) r = HasNoRole xdg r.owned.shell
IsMeant (GetPopup id version xdg parent positioner) r = HasNoRole xdg r.owned.shell
IsMeant demand r = Unit {0}

-- A demand that is done changes the windows stacked with the toplevel of the tree that it touches, and else none, whatever was taken of its
-- client's bytes, counted and told to it.
abbrev pub DemandChanges : Demand → Type 0
DemandChanges demand =
    (c : ℕ) (r : Resident) (p : Peer) (d e : Desktop) → HasTrees d → HasTrees e → client_at c d ≡ Some r → IsMeant demand r
    → IsDone c demand (with_peer p r) d e → ChangesAt (touched_by demand r) c d e
