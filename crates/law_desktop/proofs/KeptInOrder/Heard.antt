-- What is known of an accepted message where nothing is left out.
use Rattle.std.proofs.Common.{◌≡◌, ℕ, zero, suc, List, [], Bool, true, false, Option, Some, None, Result, refl, sym, subst}
use Rattle.std.specs.Prelude.{pos, int_le, int_lt, Ok, Err, ◌==◌, ◌&&◌, ◌||◌, if◌then◌else◌, is_some, IsSomeAnd, length, nat_le}
use Rattle.std.specs.List.{list_any}
use Rattle.std.specs.Option.{option_map_or}
use Rattle.wl_wire.specs.Wire.{Field}
use Rattle.wl_geom.specs.declared.rect.Rect.{Rect}
use Rattle.wl_proto.specs.declared.interface.Interface.{Interface}
use Rattle.wl_proto.specs.declared.interface.Interface.TheVariants.{WlSurface}
use Rattle.wl_proto.specs.declared.interface.Interface.TheVariants.{XdgWmBase, XdgSurface}
use Rattle.wl_proto.specs.declared.wl_compositor.WlCompositorRequest.TheVariants as compositor
use Rattle.wl_proto.specs.declared.wl_pointer.WlPointerRequest.TheVariants as pointer
use Rattle.wl_proto.specs.declared.wl_seat.WlSeatRequest.TheVariants as seat
use Rattle.wl_proto.specs.declared.wl_subcompositor.WlSubcompositorRequest.TheVariants as subcompositor
use Rattle.wl_proto.specs.declared.wl_subsurface.WlSubsurfaceRequest.{WlSubsurfaceRequest}
use Rattle.wl_proto.specs.declared.wl_subsurface.WlSubsurfaceRequest.TheVariants as subsurface
use Rattle.wl_proto.specs.declared.wl_surface.WlSurfaceRequest.{WlSurfaceRequest}
use Rattle.wl_proto.specs.declared.wl_surface.WlSurfaceRequest.TheVariants as surface
use Rattle.wl_proto.specs.declared.xdg_popup.XdgPopupRequest.{XdgPopupRequest}
use Rattle.wl_proto.specs.declared.xdg_popup.XdgPopupRequest.TheVariants as popup
use Rattle.wl_proto.specs.declared.xdg_surface.XdgSurfaceRequest.{XdgSurfaceRequest}
use Rattle.wl_proto.specs.declared.xdg_surface.XdgSurfaceRequest.TheVariants as xdg
use Rattle.wl_proto.specs.declared.xdg_wm_base.XdgWmBaseRequest.{XdgWmBaseRequest}
use Rattle.wl_proto.specs.declared.xdg_wm_base.XdgWmBaseRequest.TheVariants as base
use Rattle.spec_desktop.specs.declared.actions.Action.{Action}
use Rattle.spec_desktop.specs.declared.refusals.Refusal.{Refusal}
use Rattle.spec_desktop.specs.Judgement.{action_of}
use Rattle.spec_desktop.specs.Objects.{is_of}
use Rattle.spec_desktop.specs.Peer.{known_of}
use Rattle.spec_desktop.specs.Requests.{Request, ToCompositor, ToSurface, ToSubcompositor, ToSubsurface, ToSeat, ToPointer, ToBase, ToXdgSurface}
use Rattle.spec_desktop.specs.Requests.{ToToplevel, ToPopup, base_request, rect, request_in}
use Rattle.spec_desktop.specs.ToplevelRequest.{ToplevelRequest}
use Rattle.spec_desktop.specs.ToplevelRequest as toplevel
use Rattle.wl_surface.specs.Request.{Request as Asked, Member, PlaceAbove, PlaceBelow}
use Rattle.wl_surface.specs.Surfaces.{Link}
use Rattle.wl_surface.specs.Trees.{is_bad_parent, is_too_deep}
use Rattle.wl_shell.specs.Popups.{Popped, is_parent, is_popup_mapped, popup_at, is_configured}
use Rattle.wl_shell.specs.Positioner.{is_complete, Positioner}
use Rattle.wl_shell.specs.Shell.{Effect, Configures, XdgSurface as Xdg, answers_states, is_full, is_waiting, stage_of, xdg_at, xdg_of, xdg_with}
use Rattle.spec_desktop.specs.Ask.{Ask, Ignore, CreateSurface, GetXdgSurface, owns}
use Rattle.spec_desktop.specs.Demand.{Demand, Asks}
use Rattle.spec_desktop.specs.Demand.{GetPopup, Grab, EndPopup}
use Rattle.spec_desktop.specs.Demanding.{base_demand, committed_by, demand_by, demand_of, demands, effect_of_commit, judge_all, moved_by_pointer, own_demand, surface_demand, toplevel_asked, if_whole}
use Rattle.spec_desktop.specs.Demanding.{toplevel_destroyed, xdg_asked}
use Rattle.spec_desktop.specs.Desktop.{Resident}
use Rattle.spec_desktop.specs.WlPointer.{cursor_set, is_no_cursor}
use Rattle.spec_desktop.specs.WlSubsurface.{beside, demand_by_link, has_subsurface, is_no_subsurface, link_of_subsurface, placed_beside, subsurface_made}
use Rattle.spec_desktop.specs.XdgPopup.{grab_of, is_no_popup, may_be_parent, popup_asked, popup_made, positioner_of, repositioned_by}
use Rattle.spec_desktop.specs.XdgShell.{geometry_set, has_any, is_foreign, is_no_toplevel, role_of, state_asked}
use Rattle.spec_desktop.specs.WlSurface.{will_be_whole}
use Rattle.law_desktop.proofs.Soundness.AllowedHeard.{judged-hears, named-second}
use Rattle.law_desktop.proofs.Soundness.AllowedOwn.{IsHeardBy}
use Rattle.law_desktop.proofs.KeptInOrder.Elders.{HasLiving, IsLiving}

-- ---- what is known

abbrev pub IsFitAsk : Resident → Ask → Type 0
IsFitAsk r (CreateSurface id version) = nat_le 256 (length r.owned.surfaces.surfaces) ≡ false
IsFitAsk r (GetXdgSurface id version base surface) = is_of WlSurface (r.peer.objects surface) ≡ true
IsFitAsk r ask = Unit {0}

-- There is room for one more surface; the surface of a new xdg_surface is there; the parent of a new popup has a role object; a popup that
-- goes is no parent; and one that asks for a grab isn't dismissed.
abbrev pub IsFit : Resident → Demand → Type 0
IsFit r (Asks ask) = IsFitAsk r ask
IsFit r (GetPopup id version xdg parent p) = may_be_parent (xdg_at parent r.owned.shell) ≡ true
IsFit r (Grab xdg serial) = HasLiving xdg r.owned.shell
IsFit r (EndPopup id xdg) = is_parent xdg r.owned.shell ≡ false
IsFit r demand = Unit {0}

abbrev Fits : Resident → Result Demand Refusal → Type 0
Fits r (Ok demand) = IsFit r demand
Fits r (Err refusal) = Unit {0}

abbrev FitsAsk : Resident → Result Ask Refusal → Type 0
FitsAsk r judged = Fits r (demands judged)

either : (r : Resident) (b : Bool) (x y : Result Demand Refusal) → (b ≡ true → Fits r x) → (b ≡ false → Fits r y) → Fits r (if b then x else y)
either r true x y f g = f refl
either r false x y f g = g refl

ask-either : (r : Resident) (b : Bool) (x y : Result Ask Refusal) → (b ≡ true → FitsAsk r x) → (b ≡ false → FitsAsk r y) → FitsAsk r (if b then x else y)
ask-either r true x y f g = f refl
ask-either r false x y f g = g refl

own-fits : (r : Resident) (judged : Result Action Refusal) → FitsAsk r (owns judged)
own-fits r (Ok action) = tt
own-fits r (Err refusal) = tt

own-demand-fits : (r : Resident) (object version : ℕ) (request : Request) → Fits r (own_demand r object version request)
own-demand-fits r object version request = own-fits r (action_of (known_of r.peer) object version request)

-- ---- surfaces

commit-fits : (r : Resident) (o : Option Xdg) (object : ℕ) (effect : Effect) → Fits r (committed_by o object effect)
commit-fits r (Some x) object Configures = either r (is_full x.configures) _ _ (λ full. tt) (λ room. tt)
commit-fits r o object effect = tt

-- where the buffer is whole, as without that
whole-fits : (r : Resident) (b : Bool) (object : ℕ) (judged : Result Demand Refusal) → Fits r judged → Fits r (if_whole b object judged)
whole-fits r true object judged fits = fits
whole-fits r false object (Ok demand) fits = tt
whole-fits r false object (Err refusal) fits = tt

surface-fits : (r : Resident) (object version : ℕ) (request : WlSurfaceRequest) → Fits r (surface_demand r object version request)
surface-fits r object version surface.Destroy = either r (is_some (xdg_of object r.owned.shell)) _ _ (λ there. tt) (λ none. tt)
surface-fits r object version surface.Commit =
    whole-fits r (will_be_whole r object) object _ (commit-fits r (xdg_of object r.owned.shell) object (effect_of_commit r object))
surface-fits r object version (surface.SetBufferTransform transform) = ask-either r (int_le (pos 0) transform && int_le transform (pos 7)) _ _ (λ some. tt) (λ none. tt)
surface-fits r object version (surface.SetBufferScale scale) = ask-either r (int_le (pos 1) scale) _ _ (λ some. tt) (λ none. tt)
surface-fits r object version request = tt

-- ---- subsurfaces

made-fits : (r : Resident) (object version id child parent : ℕ) → Fits r (subsurface_made r object version id child parent)
made-fits r object version id child parent =
    either r (is_too_deep r.owned.surfaces child parent) _ _ (λ deep. tt)
    (λ shallow. either r (is_no_subsurface (role_of r child) || (has_subsurface child r || is_some (xdg_of child r.owned.shell))) _ _ (λ bad. tt)
    (λ good. either r (is_bad_parent r.owned.surfaces child parent) _ _ (λ bad. tt) (λ good. tt)))

placed-fits : (r : Resident) (object parent : ℕ) (request : Member → Asked) (o : Option Member) → Fits r (placed_beside object parent request o)
placed-fits r object parent request None = tt
placed-fits r object parent request (Some member) = tt

link-fits : (r : Resident) (object : ℕ) (o : Option Link) (request : WlSubsurfaceRequest) → Fits r (demand_by_link r object o request)
link-fits r object o subsurface.Destroy = tt
link-fits r object None request = tt
link-fits r object (Some l) (subsurface.PlaceAbove sibling) = placed-fits r object l.parent (PlaceAbove l.number) (beside r.owned.surfaces l sibling)
link-fits r object (Some l) (subsurface.PlaceBelow sibling) = placed-fits r object l.parent (PlaceBelow l.number) (beside r.owned.surfaces l sibling)
link-fits r object o request = tt

-- ---- the pointer

cursor-fits : (r : Resident) (object surface : ℕ) → Fits r (if surface == 0 then Ok (Asks Ignore) else cursor_set r object surface)
cursor-fits r object surface =
    either r (surface == 0) _ _ (λ null. tt)
    (λ one. either r (is_no_cursor (role_of r surface) || is_some (xdg_of surface r.owned.shell)) _ _ (λ other. tt) (λ free. tt))

-- ---- the shell

-- the surface that a request names is there
abbrev NamesSurface : Resident → XdgWmBaseRequest → Type 0
NamesSurface r (base.GetXdgSurface id surface) = is_of WlSurface (r.peer.objects surface) ≡ true
NamesSurface r request = Unit {0}

base-fits : (r : Resident) (object version : ℕ) (request : XdgWmBaseRequest) → NamesSurface r request → Fits r (base_demand r object version request)
base-fits r object version base.Destroy names = ask-either r (list_any (λ x. x.base == object) r.owned.shell) _ _ (λ defunct. tt) (λ none. tt)
base-fits r object version (base.CreatePositioner id) names = own-demand-fits r object version (ToBase (base.CreatePositioner id))
base-fits r object version (base.GetXdgSurface id surface) names =
    ask-either r (is_foreign (role_of r surface) || is_some (xdg_of surface r.owned.shell)) _ _ (λ other. tt) (λ free. ask-either r (has_any r surface) _ _ (λ some. tt) (λ none. names))
base-fits r object version (base.Pong serial) names = tt

popup-made-fits : (r : Resident) (x : Xdg) (version id parent positioner : ℕ) → Fits r (popup_made r x version id parent (positioner_of (r.peer.positioners positioner)))
popup-made-fits r x version id parent positioner =
    either r (is_some x.role) _ _ (λ e. tt)
    (λ e. either r (is_no_popup (role_of r x.surface)) _ _ (λ f. tt)
    (λ f. either r (may_be_parent (xdg_at parent r.owned.shell)) _ _
    (λ may. either r (is_complete (positioner_of (r.peer.positioners positioner))) _ _ (λ h. may) (λ h. tt)) (λ never. tt)))

geometry-fits : (r : Resident) (x : Xdg) (rect : Rect) → FitsAsk r (geometry_set x rect)
geometry-fits r x rect =
    ask-either r (is_some x.role) _ _ (λ e. ask-either r (int_lt (pos 0) rect.w && int_lt (pos 0) rect.h) _ _ (λ f. tt) (λ f. tt)) (λ e. tt)

xdg-fits : (r : Resident) (x : Option Xdg) (version : ℕ) (request : XdgSurfaceRequest) → Fits r (xdg_asked r x version request)
xdg-fits r None version request = tt
xdg-fits r (Some x) version xdg.Destroy = ask-either r (is_some x.role) _ _ (λ e. tt) (λ e. tt)
xdg-fits r (Some x) version (xdg.GetToplevel id) = ask-either r (is_some x.role) _ _ (λ e. tt) (λ e. ask-either r (is_no_toplevel (role_of r x.surface)) _ _ (λ f. tt) (λ f. tt))
xdg-fits r (Some x) version (xdg.GetPopup id parent positioner) = popup-made-fits r x version id parent positioner
xdg-fits r (Some x) version (xdg.SetWindowGeometry a b width height) = geometry-fits r x (rect a b width height)
xdg-fits r (Some x) version (xdg.AckConfigure serial) = ask-either r (is_some x.role) _ _ (λ e. ask-either r (is_waiting serial x.configures) _ _ (λ f. tt) (λ f. tt)) (λ e. tt)

gone-fits : (r : Resident) (object : ℕ) (o : Option Xdg) → Fits r (toplevel_destroyed object o)
gone-fits r object None = tt
gone-fits r object (Some x) = tt

moved-fits : (r : Resident) (serial : ℕ) (o : Option Xdg) → Fits r (moved_by_pointer serial o)
moved-fits r serial None = tt
moved-fits r serial (Some x) = tt

state-fits : (r : Resident) (o : Option Xdg) → FitsAsk r (state_asked o)
state-fits r None = tt
state-fits r (Some x) = ask-either r (option_map_or answers_states (stage_of x) false) _ _ (λ e. ask-either r (is_full x.configures) _ _ (λ f. tt) (λ f. tt)) (λ e. tt)

toplevel-fits : (r : Resident) (object : ℕ) (o : Option Xdg) (request : ToplevelRequest) → Fits r (toplevel_asked object o request)
toplevel-fits r object o toplevel.Destroy = gone-fits r object o
toplevel-fits r object o (toplevel.Move by serial) = moved-fits r serial o
toplevel-fits r object o toplevel.SetMaximized = state-fits r o
toplevel-fits r object o toplevel.UnsetMaximized = state-fits r o
toplevel-fits r object o (toplevel.SetFullscreen output) = state-fits r o
toplevel-fits r object o toplevel.UnsetFullscreen = state-fits r o
toplevel-fits r object None request = tt
toplevel-fits r object (Some x) request = tt

grab-fits : (r : Resident) (object serial : ℕ) (x : Xdg) (o : Option Popped) → popup_at x.id r.owned.shell ≡ o → Fits r (grab_of object serial x o)
grab-fits r object serial x None found = tt
grab-fits r object serial x (Some p) found =
    either r p.popup.is_dismissed _ _ (λ gone. tt)
    (λ living. either r (is_popup_mapped p) _ _ (λ mapped. tt) (λ e. subst (λ (o : Option Popped). IsSomeAnd o (λ q. IsLiving q.popup)) (sym found) living))

repositioned-fits : (r : Resident) (x : Xdg) (token : ℕ) (p : Positioner) (o : Option Popped) → Fits r (repositioned_by x token p o)
repositioned-fits r x token p None = tt
repositioned-fits r x token p (Some q) =
    either r (is_configured q && is_full x.configures) _ _ (λ full. tt) (λ room. either r (is_complete p) _ _ (λ whole. tt) (λ lacks. tt))

popup-fits : (r : Resident) (object : ℕ) (o : Option Xdg) (request : XdgPopupRequest) → Fits r (popup_asked r object o request)
popup-fits r object None request = tt
popup-fits r object (Some x) popup.Destroy = either r (is_parent x.id r.owned.shell) _ _ (λ e. tt) (λ none. none)
popup-fits r object (Some x) (popup.Grab by serial) = grab-fits r object serial x (popup_at x.id r.owned.shell) refl
popup-fits r object (Some x) (popup.Reposition positioner token) =
    repositioned-fits r x token (positioner_of (r.peer.positioners positioner)) (popup_at x.id r.owned.shell)

-- ---- every interface

abbrev Names : Resident → Request → Type 0
Names r (ToBase request) = NamesSurface r request
Names r request = Unit {0}

interface-fits : (request : Request) (r : Resident) (object version : ℕ) → Names r request → Fits r (demand_by request r object version)
interface-fits (ToCompositor (compositor.CreateSurface id)) r object version names = ask-either r (nat_le 256 (length r.owned.surfaces.surfaces)) _ _ (λ full. tt) (λ room. room)
interface-fits (ToCompositor (compositor.CreateRegion id)) r object version names = own-demand-fits r object version (ToCompositor (compositor.CreateRegion id))
interface-fits (ToSurface request) r object version names = surface-fits r object version request
interface-fits (ToSeat (seat.GetPointer id)) r object version names = tt
interface-fits (ToSeat (seat.GetKeyboard id)) r object version names = tt
interface-fits (ToSeat (seat.GetTouch id)) r object version names = tt
interface-fits (ToBase request) r object version names = base-fits r object version request names
interface-fits (ToXdgSurface request) r object version names = xdg-fits r (xdg_at object r.owned.shell) version request
interface-fits (ToToplevel request) r object version names = toplevel-fits r object (xdg_with object r.owned.shell) request
interface-fits (ToSubcompositor subcompositor.Destroy) r object version names = tt
interface-fits (ToSubcompositor (subcompositor.GetSubsurface id child parent)) r object version names = made-fits r object version id child parent
interface-fits (ToSubsurface request) r object version names = link-fits r object (link_of_subsurface object r) request
interface-fits (ToPointer (pointer.SetCursor serial surface x y)) r object version names = cursor-fits r object surface
interface-fits (ToPopup request) r object version names = popup-fits r object (xdg_with object r.owned.shell) request
interface-fits request r object version names = own-demand-fits r object version request

base-names : (r : Resident) (object opcode : ℕ) (fields : List Field) → IsHeardBy XdgWmBase r object opcode fields → NamesSurface r (base_request opcode fields)
base-names r object (suc (suc zero)) fields heard = named-second r.peer.objects (Some XdgSurface) WlSurface [] _ fields heard.kinds heard.named
base-names r object (suc (suc (suc (suc opcode)))) fields heard = absurd heard.kinds
base-names r object opcode fields heard = tt

heard-names : (interface : Interface) (r : Resident) (object opcode : ℕ) (fields : List Field) → IsHeardBy interface r object opcode fields → Names r (request_in interface opcode fields)
heard-names XdgWmBase r object opcode fields heard = base-names r object opcode fields heard
heard-names interface r object opcode fields heard = tt

-- what is known of an accepted message
pub fits : (r : Resident) (object opcode : ℕ) (body : List ℕ) (demand : Demand) → judge_all r object opcode body ≡ Ok demand → IsFit r demand
fits r object opcode body demand e =
    let heard = judged-hears r.peer.objects r.peer.held object opcode (λ version m. demand_of r object version m) body demand e in
    let interface = heard.0.interface in
    let request = request_in interface opcode heard.1 in
    subst (λ (o : Result Demand Refusal). Fits r o) heard.3
    (interface-fits request r object heard.0.version (heard-names interface r object opcode heard.1 heard.2))
