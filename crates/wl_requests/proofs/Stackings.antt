-- What requests do to the stack of toplevels.
use Rattle.std.proofs.Common.{◌≡◌, ℕ, Bool, true, false, Option, Some, None, Result, refl, sym, subst}
use Rattle.std.specs.Prelude.{◌==◌, ◌||◌, if◌then◌else◌, is_some, Ok, ◌&&◌}
use Rattle.wl_proto.specs.Messages.{Message, wl_pointer_request, wl_subcompositor_request, wl_subsurface_request, xdg_popup_request, xdg_surface_request, xdg_wm_base_request}
use Rattle.wl_proto.specs.declared.xdg_popup.XdgPopupRequest.{XdgPopupRequest}
use Rattle.wl_proto.specs.declared.xdg_popup.XdgPopupRequest.TheVariants as popups
use Rattle.wl_proto.specs.declared.wl_pointer.WlPointerRequest.{WlPointerRequest}
use Rattle.wl_proto.specs.declared.wl_pointer.WlPointerRequest.TheVariants as pointer
use Rattle.wl_proto.specs.declared.wl_subcompositor.WlSubcompositorRequest.{WlSubcompositorRequest}
use Rattle.wl_proto.specs.declared.wl_subcompositor.WlSubcompositorRequest.TheVariants as subcompositor
use Rattle.wl_proto.specs.declared.wl_subsurface.WlSubsurfaceRequest.{WlSubsurfaceRequest}
use Rattle.wl_proto.specs.declared.wl_subsurface.WlSubsurfaceRequest.TheVariants as subsurface
use Rattle.wl_proto.specs.declared.xdg_wm_base.XdgWmBaseRequest.{XdgWmBaseRequest}
use Rattle.wl_proto.specs.declared.xdg_wm_base.XdgWmBaseRequest.TheVariants as base
use Rattle.wl_proto.specs.declared.xdg_surface.XdgSurfaceRequest.{XdgSurfaceRequest}
use Rattle.wl_proto.specs.declared.xdg_surface.XdgSurfaceRequest.TheVariants as requests
use Rattle.wl_proto.specs.declared.interface.Interface.TheVariants.{XdgToplevel}
use Rattle.spec_desktop.specs.declared.refusals.ErrorCode.TheVariants.{Role as HasAnotherRole}
use Rattle.spec_desktop.specs.declared.refusals.Refusal.{Refusal}
use Rattle.wl_shell.specs.Kept.{kept_of}
use Rattle.wl_shell.specs.Popups.{Popped, is_parent, is_popup_mapped, is_toplevel, popup_at, is_configured}
use Rattle.wl_shell.specs.Positioner.{Positioner, is_complete}
use Rattle.wl_shell.specs.Shell.{Effect, XdgSurface as Xdg, xdg_at, xdg_of, xdg_with, is_full}
use Rattle.wl_shell.specs.declared.acts.ShellAct.{ShellAct}
use Rattle.wl_shell.specs.declared.acts.ShellAct.TheVariants.{Map, Unmap}
use Rattle.spec_desktop.specs.Ask.{Ignore}
use Rattle.spec_desktop.specs.Demand.{Asks, Demand, CommitTree}
use Rattle.spec_desktop.specs.Demanding.{demand_of, demands, effect_of_commit, moved_by_pointer, toplevel_asked, toplevel_demand, toplevel_destroyed, xdg_asked}
use Rattle.spec_desktop.specs.Desktop.{Resident}
use Rattle.law_desktop.specs.Owning.{effect_by}
use Rattle.law_desktop.specs.RoleNames.{names_of}
use Rattle.spec_desktop.specs.Requests.{toplevel_request, rect}
use Rattle.spec_desktop.specs.ToplevelRequest.{ToplevelRequest}
use Rattle.spec_desktop.specs.ToplevelRequest as toplevel
use Rattle.wl_surface.specs.Request.{Request as Asked, Member, PlaceAbove, PlaceBelow}
use Rattle.wl_surface.specs.Surfaces.{Link}
use Rattle.wl_surface.specs.Trees.{is_bad_parent, is_too_deep}
use Rattle.spec_desktop.specs.WlPointer.{is_no_cursor}
use Rattle.spec_desktop.specs.WlSubsurface.{beside, demand_by_link, has_subsurface, is_no_subsurface, link_of_subsurface, past_limit, placed_beside, refuses}
use Rattle.spec_desktop.specs.XdgPopup.{grab_of, is_no_popup, may_be_parent, popup_asked, popup_made, positioner_of, repositioned_by}
use Rattle.spec_desktop.specs.XdgShell.{acknowledged_by, geometry_set, role_of, state_asked, toplevel_made, xdg_surface_destroyed}
use Rattle.law_desktop.proofs.Keeping.OwningXdg.{toplevel-named}
use Rattle.law_desktop.proofs.OwnedPopups.Naming.{roles-named}
use Rattle.wl_requests.specs.declared.residents.Resident.{Resident as Kept}
use Rattle.wl_requests.specs.declared.residents.Stacking.{Stacking}
use Rattle.wl_requests.specs.declared.residents.Stacking.TheVariants.{Stays, Out}
use Rattle.wl_requests.specs.declared.xdg_toplevel.ToplevelAsked.TheVariants.{Destruction, Configure as AskedConfigure}
use Rattle.wl_requests.specs.Residents.{IsResident, IsSurface, IsToplevel, StacksBy, StacksIf, StacksSo, asked_by, stacking_by}
use Rattle.wl_requests.proofs.Meeting.{asks-stay}

-- a commit
stacks-by-act : {A : Type 0} (old : Kept A) (id number : ℕ) (act : ShellAct) → IsSurface old id number → StacksBy old id (effect_by act) (stacking_by act number)
stacks-by-act old id number Map named = (number, named, refl)
stacks-by-act old id number Unmap named = (number, named, refl)
stacks-by-act old id number act named = refl

stacks-if-act : {A : Type 0} (old : Kept A) (id number : ℕ) (act : ShellAct) (toplevel : Bool) → IsSurface old id number
    → StacksIf toplevel old id (effect_by act) (if toplevel then stacking_by act number else Stays)
stacks-if-act old id number act true named = stacks-by-act old id number act named
stacks-if-act old id number act false named = refl

pub commit-stacks : {A : Type 0} (old : Kept A) (r : Resident) (id number : ℕ) (act : ShellAct) (toplevel : Bool) (judged : Result Demand Refusal) (stacking : Stacking) → IsSurface old id number
    → judged ≡ Ok (CommitTree id) → effect_of_commit r id ≡ effect_by act → toplevel ≡ is_toplevel (xdg_of id r.owned.shell)
    → stacking ≡ (if toplevel then stacking_by act number else Stays) → StacksSo old r judged stacking
commit-stacks old r id number act toplevel judged stacking named e comes top is =
    subst (λ (j : Result Demand Refusal). StacksSo old r j stacking) (sym e)
    (subst (λ (b : Bool). StacksIf b old id (effect_of_commit r id) stacking) top
    (subst (λ (f : Effect). StacksIf toplevel old id f stacking) (sym comes)
    (subst (λ (s : Stacking). StacksIf toplevel old id (effect_by act) s) (sym is) (stacks-if-act old id number act toplevel named))))

-- a toplevel that goes
pub toplevel-out : {A : Type 0} (old : Kept A) (r : Resident) (object number : ℕ) → IsResident old r → IsToplevel old object number
    → StacksSo old r (toplevel_destroyed object (xdg_with object r.owned.shell)) (Out number)
toplevel-out old r object number is named =
    let one = toplevel-named (names_of old.client.objects) old.owned.surfaces.states old.owned.surfaces.family (kept_of old.owned.shell) r.owned is.owns object number
    (roles-named.toplevel old.client.objects object number named) in
    subst (λ (o : Option Xdg). StacksSo old r (toplevel_destroyed object o) (Out number)) (sym one.4)
    (number, one.3.surface, refl)

moved-stays : {A : Type 0} (old : Kept A) (r : Resident) (serial : ℕ) (o : Option Xdg) → StacksSo old r (moved_by_pointer serial o) Stays
moved-stays old r serial None = tt
moved-stays old r serial (Some x) = refl

state-stays : {A : Type 0} (old : Kept A) (r : Resident) (o : Option Xdg) → StacksSo old r (demands (state_asked o)) Stays
state-stays old r o = asks-stay old r (state_asked o)

-- any other request of a toplevel
pub toplevel-stays : {A : Type 0} (old : Kept A) (r : Resident) (object : ℕ) (o : Option Xdg) (request : ToplevelRequest) → (asked_by request ≡ Destruction → ⊥)
    → StacksSo old r (toplevel_asked object o request) Stays
toplevel-stays old r object o toplevel.Destroy other = absurd (other refl)
toplevel-stays old r object o (toplevel.Move seat serial) other = moved-stays old r serial o
toplevel-stays old r object o toplevel.SetMaximized other = state-stays old r o
toplevel-stays old r object o toplevel.UnsetMaximized other = state-stays old r o
toplevel-stays old r object o (toplevel.SetFullscreen output) other = state-stays old r o
toplevel-stays old r object o toplevel.UnsetFullscreen other = state-stays old r o
toplevel-stays old r object None request other = tt
toplevel-stays old r object (Some x) request other = refl

-- which of the three a request comes to
pub toplevel-destroy : (request : ToplevelRequest) → asked_by request ≡ Destruction → request ≡ toplevel.Destroy
toplevel-destroy toplevel.Destroy is = refl
toplevel-destroy request is = absurd (cc)

pub toplevel-state : (object : ℕ) (o : Option Xdg) (request : ToplevelRequest) → asked_by request ≡ AskedConfigure → toplevel_asked object o request ≡ demands (state_asked o)
toplevel-state object o toplevel.SetMaximized is = refl
toplevel-state object o toplevel.UnsetMaximized is = refl
toplevel-state object o (toplevel.SetFullscreen output) is = refl
toplevel-state object o toplevel.UnsetFullscreen is = refl
toplevel-state object o request is = absurd (cc)

-- what is demanded of a toplevel
pub toplevel-of : (r : Resident) (object version : ℕ) (m : Message) → m.interface ≡ XdgToplevel
    → demand_of r object version m ≡ toplevel_demand r object (toplevel_request m.opcode m.fields)
toplevel-of r object version m is = rw is refl

-- whichever of two it is
if-stays : {A : Type 0} (old : Kept A) (r : Resident) (b : Bool) (x y : Result Demand Refusal) → StacksSo old r x Stays → StacksSo old r y Stays → StacksSo old r (if b then x else y) Stays
if-stays old r true x y f g = f
if-stays old r false x y f g = g

-- a request of an xdg_surface
made-stays : {A : Type 0} (old : Kept A) (r : Resident) (x : Xdg) (version id parent : ℕ) (p : Positioner) → StacksSo old r (popup_made r x version id parent p) Stays
made-stays old r x version id parent p =
    if-stays old r (is_some x.role) _ _ tt
    (if-stays old r (is_no_popup (role_of r x.surface)) _ _ tt
    (if-stays old r (may_be_parent (xdg_at parent r.owned.shell)) _ _ (if-stays old r (is_complete p) _ _ refl tt) tt))

xdg-asked-stays : {A : Type 0} (old : Kept A) (r : Resident) (o : Option Xdg) (version : ℕ) (request : XdgSurfaceRequest) → StacksSo old r (xdg_asked r o version request) Stays
xdg-asked-stays old r None version request = tt
xdg-asked-stays old r (Some x) version requests.Destroy = asks-stay old r (xdg_surface_destroyed x)
xdg-asked-stays old r (Some x) version (requests.GetToplevel id) = asks-stay old r (toplevel_made r x version id)
xdg-asked-stays old r (Some x) version (requests.GetPopup id parent positioner) = made-stays old r x version id parent (positioner_of (r.peer.positioners positioner))
xdg-asked-stays old r (Some x) version (requests.SetWindowGeometry a b width height) = asks-stay old r (geometry_set x (rect a b width height))
xdg-asked-stays old r (Some x) version (requests.AckConfigure serial) = asks-stay old r (acknowledged_by x serial)

pub xdg-stays : {A : Type 0} (old : Kept A) (r : Resident) (object version : ℕ) (request : XdgSurfaceRequest)
    → StacksSo old r (demand_of r object version (xdg_surface_request request)) Stays
xdg-stays old r object version requests.Destroy = xdg-asked-stays old r (xdg_at object r.owned.shell) version requests.Destroy
xdg-stays old r object version (requests.GetToplevel id) = xdg-asked-stays old r (xdg_at object r.owned.shell) version (requests.GetToplevel id)
xdg-stays old r object version (requests.GetPopup id parent positioner) = xdg-asked-stays old r (xdg_at object r.owned.shell) version (requests.GetPopup id parent positioner)
xdg-stays old r object version (requests.SetWindowGeometry a b width height) = xdg-asked-stays old r (xdg_at object r.owned.shell) version (requests.SetWindowGeometry a b width height)
xdg-stays old r object version (requests.AckConfigure serial) = xdg-asked-stays old r (xdg_at object r.owned.shell) version (requests.AckConfigure serial)

-- a request of an xdg_popup
destroyed-stays : {A : Type 0} (old : Kept A) (r : Resident) (object : ℕ) (o : Option Xdg) → StacksSo old r (popup_asked r object o popups.Destroy) Stays
destroyed-stays old r object None = tt
destroyed-stays old r object (Some x) = if-stays old r (is_parent x.id r.owned.shell) _ _ tt refl

grab-stays : {A : Type 0} (old : Kept A) (r : Resident) (object seat serial : ℕ) (o : Option Xdg) → StacksSo old r (popup_asked r object o (popups.Grab seat serial)) Stays
grab-stays old r object seat serial None = tt
grab-stays old r object seat serial (Some x) = at (popup_at x.id r.owned.shell)
  where
    at : (o : Option Popped) → StacksSo old r (grab_of object serial x o) Stays
    at None = tt
    at (Some p) = if-stays old r p.popup.is_dismissed _ _ refl (if-stays old r (is_popup_mapped p) _ _ tt refl)

reposition-stays : {A : Type 0} (old : Kept A) (r : Resident) (object positioner token : ℕ) (o : Option Xdg) → StacksSo old r (popup_asked r object o (popups.Reposition positioner token)) Stays
reposition-stays old r object positioner token None = tt
reposition-stays old r object positioner token (Some x) = at (positioner_of (r.peer.positioners positioner)) (popup_at x.id r.owned.shell)
  where
    at : (p : Positioner) (o : Option Popped) → StacksSo old r (repositioned_by x token p o) Stays
    at p None = tt
    at p (Some q) = if-stays old r (is_configured q && is_full x.configures) _ _ tt (if-stays old r (is_complete p) _ _ refl tt)

pub popup-stays : {A : Type 0} (old : Kept A) (r : Resident) (object version : ℕ) (request : XdgPopupRequest)
    → StacksSo old r (demand_of r object version (xdg_popup_request request)) Stays
popup-stays old r object version popups.Destroy = destroyed-stays old r object (xdg_with object r.owned.shell)
popup-stays old r object version (popups.Grab seat serial) = grab-stays old r object seat serial (xdg_with object r.owned.shell)
popup-stays old r object version (popups.Reposition positioner token) = reposition-stays old r object positioner token (xdg_with object r.owned.shell)

-- a request of a wl_subsurface
placed-stays : {A : Type 0} (old : Kept A) (r : Resident) (object parent : ℕ) (request : Member → Asked) (o : Option Member) → StacksSo old r (placed_beside object parent request o) Stays
placed-stays old r object parent request None = tt
placed-stays old r object parent request (Some member) = refl

linked-stays : {A : Type 0} (old : Kept A) (r : Resident) (object : ℕ) (o : Option Link) (request : WlSubsurfaceRequest) → StacksSo old r (demand_by_link r object o request) Stays
linked-stays old r object o subsurface.Destroy = refl
linked-stays old r object None request = refl
linked-stays old r object (Some l) (subsurface.PlaceAbove sibling) = placed-stays old r object l.parent (PlaceAbove l.number) (beside r.owned.surfaces l sibling)
linked-stays old r object (Some l) (subsurface.PlaceBelow sibling) = placed-stays old r object l.parent (PlaceBelow l.number) (beside r.owned.surfaces l sibling)
linked-stays old r object o request = refl

pub subsurface-stays : {A : Type 0} (old : Kept A) (r : Resident) (object version : ℕ) (request : WlSubsurfaceRequest)
    → StacksSo old r (demand_of r object version (wl_subsurface_request request)) Stays
subsurface-stays old r object version subsurface.Destroy = linked-stays old r object (link_of_subsurface object r) subsurface.Destroy
subsurface-stays old r object version (subsurface.SetPosition x y) = linked-stays old r object (link_of_subsurface object r) (subsurface.SetPosition x y)
subsurface-stays old r object version (subsurface.PlaceAbove sibling) = linked-stays old r object (link_of_subsurface object r) (subsurface.PlaceAbove sibling)
subsurface-stays old r object version (subsurface.PlaceBelow sibling) = linked-stays old r object (link_of_subsurface object r) (subsurface.PlaceBelow sibling)
subsurface-stays old r object version subsurface.SetSync = linked-stays old r object (link_of_subsurface object r) subsurface.SetSync
subsurface-stays old r object version subsurface.SetDesync = linked-stays old r object (link_of_subsurface object r) subsurface.SetDesync

-- a request of a wl_subcompositor
pub subcompositor-stays : {A : Type 0} (old : Kept A) (r : Resident) (object version : ℕ) (request : WlSubcompositorRequest)
    → StacksSo old r (demand_of r object version (wl_subcompositor_request request)) Stays
subcompositor-stays old r object version subcompositor.Destroy = refl
subcompositor-stays old r object version (subcompositor.GetSubsurface id child parent) =
    if-stays old r (is_too_deep r.owned.surfaces child parent) past_limit _ tt
    (if-stays old r (is_no_subsurface (role_of r child) || (has_subsurface child r || is_some (xdg_of child r.owned.shell))) _ _ tt
    (if-stays old r (is_bad_parent r.owned.surfaces child parent) _ _ tt refl))

-- a request of a wl_pointer
pub pointer-stays : {A : Type 0} (old : Kept A) (r : Resident) (object version : ℕ) (request : WlPointerRequest)
    → StacksSo old r (demand_of r object version (wl_pointer_request request)) Stays
pointer-stays old r object version (pointer.SetCursor serial surface x y) =
    if-stays old r (surface == 0) (Ok (Asks Ignore)) _ refl
    (if-stays old r (is_no_cursor (role_of r surface) || is_some (xdg_of surface r.owned.shell)) (refuses object HasAnotherRole) _ tt refl)

-- a request of an xdg_wm_base
pub base-stays : {A : Type 0} (old : Kept A) (r : Resident) (object version : ℕ) (request : XdgWmBaseRequest)
    → StacksSo old r (demand_of r object version (xdg_wm_base_request request)) Stays
base-stays old r object version (base.CreatePositioner id) = refl
base-stays old r object version (base.Pong serial) = refl
base-stays old r object version request = asks-stay old r _
