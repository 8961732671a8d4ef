-- What an accepted message names: the parent of a new subsurface is there, and a place is that of a link that lives.
use Rattle.std.proofs.Common.{◌≡◌, ℕ, zero, suc, List, [], ◌∷◌, Bool, true, false, Option, Some, None, Result, refl, subst, map}
use Rattle.std.specs.Prelude.{Ok, Err, pos, ◌==◌, ◌&&◌, ◌||◌, if◌then◌else◌, int_le, int_lt, is_some, length, nat_le}
use Rattle.std.specs.List.{list_all, list_any}
use Rattle.std.specs.Option.{option_map_or}
use Rattle.wl_wire.specs.Wire.{Field, Word, Kind, AWord, kind_of}
use Rattle.wl_geom.specs.declared.rect.Rect.{Rect}
use Rattle.wl_proto.specs.declared.interface.Interface.{Interface}
use Rattle.wl_proto.specs.declared.interface.Interface.TheVariants.{WlDisplay, WlRegistry, WlCallback, WlCompositor, WlRegion, WlSurface, WlShm, WlShmPool, WlBuffer, WlSubcompositor, WlSubsurface}
use Rattle.wl_proto.specs.declared.interface.Interface.TheVariants.{WlOutput, WlSeat, WlPointer, XdgWmBase, XdgPositioner, XdgSurface, XdgToplevel, XdgPopup}
use Rattle.wl_proto.specs.Objects.{objects_of}
use Rattle.wl_proto.specs.Table.{AnObject, ANewId}
use Rattle.wl_proto.specs.declared.wl_compositor.WlCompositorRequest.{WlCompositorRequest}
use Rattle.wl_proto.specs.declared.wl_compositor.WlCompositorRequest.TheVariants as compositor
use Rattle.wl_proto.specs.declared.wl_pointer.WlPointerRequest.{WlPointerRequest}
use Rattle.wl_proto.specs.declared.wl_pointer.WlPointerRequest.TheVariants as pointer
use Rattle.wl_proto.specs.declared.wl_seat.WlSeatRequest.{WlSeatRequest}
use Rattle.wl_proto.specs.declared.wl_seat.WlSeatRequest.TheVariants as seat
use Rattle.wl_proto.specs.declared.wl_subsurface.WlSubsurfaceRequest.{WlSubsurfaceRequest}
use Rattle.wl_proto.specs.declared.wl_subsurface.WlSubsurfaceRequest.TheVariants as subsurface
use Rattle.wl_proto.specs.declared.wl_surface.WlSurfaceRequest.{WlSurfaceRequest}
use Rattle.wl_proto.specs.declared.wl_surface.WlSurfaceRequest.TheVariants as surface
use Rattle.wl_proto.specs.declared.xdg_popup.XdgPopupRequest.{XdgPopupRequest}
use Rattle.wl_proto.specs.declared.xdg_popup.XdgPopupRequest.TheVariants as popup
use Rattle.wl_proto.specs.declared.xdg_surface.XdgSurfaceRequest.{XdgSurfaceRequest}
use Rattle.wl_proto.specs.declared.xdg_surface.XdgSurfaceRequest.TheVariants as xdg
use Rattle.wl_proto.specs.declared.xdg_wm_base.XdgWmBaseRequest.{XdgWmBaseRequest}
use Rattle.wl_proto.specs.declared.xdg_wm_base.XdgWmBaseRequest.TheVariants as base
use Rattle.spec_desktop.specs.declared.actions.Action.{Action}
use Rattle.spec_desktop.specs.declared.refusals.Refusal.{Refusal}
use Rattle.spec_desktop.specs.Judgement.{action_of}
use Rattle.spec_desktop.specs.Objects.{Objects, fits, is_of}
use Rattle.spec_desktop.specs.Peer.{known_of}
use Rattle.spec_desktop.specs.Requests.{Request as Asked, base_request, compositor_request, pointer_request, popup_request, rect, request_in, seat_request, subcompositor_request}
use Rattle.spec_desktop.specs.Requests.{subsurface_request, surface_request, toplevel_request, word_in, xdg_request}
use Rattle.spec_desktop.specs.Requests as to
use Rattle.spec_desktop.specs.ToplevelRequest.{ToplevelRequest}
use Rattle.spec_desktop.specs.ToplevelRequest as toplevel
use Rattle.wl_surface.specs.Request.{Member, PlaceAbove, PlaceBelow, Request, SetPosition}
use Rattle.wl_surface.specs.Surfaces.{Link, Surfaces}
use Rattle.wl_surface.specs.Trees.{is_bad_parent, is_too_deep}
use Rattle.wl_shell.specs.Popups.{Popped, is_parent, is_popup_mapped, popup_at, is_configured}
use Rattle.wl_shell.specs.Positioner.{is_complete, Positioner}
use Rattle.wl_shell.specs.Shell.{Effect, Configures, XdgSurface as Xdg, answers_states, is_full, is_waiting, stage_of, xdg_at, xdg_of, xdg_with}
use Rattle.spec_desktop.specs.Ask.{Ask, AskSurface, owns}
use Rattle.spec_desktop.specs.Demand.{Demand, Asks, GetSubsurface}
use Rattle.spec_desktop.specs.Demanding.{base_demand, committed_by, compositor_demand, demand_by, demand_of, demands, effect_of_commit, judge_all, moved_by_pointer, own_demand, surface_demand}
use Rattle.spec_desktop.specs.Demanding.{toplevel_asked, toplevel_destroyed, xdg_asked, if_whole}
use Rattle.spec_desktop.specs.Desktop.{Resident}
use Rattle.spec_desktop.specs.WlPointer.{is_no_cursor, pointer_demand, seat_demand}
use Rattle.spec_desktop.specs.WlSubsurface.{beside, demand_by_link, has_subsurface, is_no_subsurface, link_of_subsurface, placed_beside, subcompositor_demand, subsurface_made}
use Rattle.spec_desktop.specs.XdgPopup.{grab_of, is_no_popup, may_be_parent, popup_asked, positioner_of, repositioned_by}
use Rattle.spec_desktop.specs.XdgShell.{has_any, is_foreign, is_no_toplevel, role_of, state_asked}
use Rattle.spec_desktop.specs.WlSurface.{will_be_whole}
use Rattle.law_desktop.proofs.Soundness.Allowed.{link-lives}
use Rattle.law_desktop.proofs.Soundness.AllowedHeard.{fit-here, judged-hears}
use Rattle.law_desktop.proofs.Soundness.AllowedOwn.{IsHeardBy}
use Rattle.law_desktop.proofs.Soundness.Orderly.{IsObject, IsOfParent}
use Rattle.law_desktop.proofs.Truth.{and-left, and-right}

-- a place that is asked is of a link of the surface that lives
abbrev pub IsSettable : ℕ → Surfaces → Request → Type 0
IsSettable surface all (SetPosition number x y) = IsOfParent number surface all
IsSettable surface all request = Unit {0}

abbrev NamesAsk : Resident → Ask → Type 0
NamesAsk r (AskSurface surface request) = IsSettable surface r.owned.surfaces request
NamesAsk r ask = Unit {0}

abbrev pub Names : Resident → Demand → Type 0
Names r (Asks ask) = NamesAsk r ask
Names r (GetSubsurface id version child parent) = IsObject WlSurface parent r
Names r demand = Unit {0}

abbrev AllNamed : Resident → Result Demand Refusal → Type 0
AllNamed r (Ok demand) = Names r demand
AllNamed r (Err refusal) = Unit {0}

either : (r : Resident) (b : Bool) (x y : Result Demand Refusal) → AllNamed r x → AllNamed r y → AllNamed r (if b then x else y)
either r true x y f g = f
either r false x y f g = g

ask-either : (r : Resident) (b : Bool) (x y : Result Ask Refusal) → AllNamed r (demands x) → AllNamed r (demands y) → AllNamed r (demands (if b then x else y))
ask-either r true x y f g = f
ask-either r false x y f g = g

own-named : (r : Resident) (judged : Result Action Refusal) → AllNamed r (demands (owns judged))
own-named r (Ok action) = tt
own-named r (Err refusal) = tt

own-request : (r : Resident) (object version : ℕ) (request : Asked) → AllNamed r (own_demand r object version request)
own-request r object version request = own-named r (action_of (known_of r.peer) object version request)

-- ---- subsurfaces

-- an object that may not be null, behind a new id and another object
named-third : (objects : Objects) (new : Option Interface) (first second : Interface) (kinds : List Kind) (fields : List Field)
    → map kind_of fields ≡ AWord ∷ AWord ∷ AWord ∷ kinds → list_all (fits objects) (objects_of (ANewId new ∷ AnObject first false ∷ AnObject second false ∷ []) fields) ≡ true
    → is_of second (objects (word_in 2 fields)) ≡ true
named-third objects new first second kinds (Word n ∷ Word m ∷ Word id ∷ fields) e named =
    fit-here (id == 0) (is_of second (objects id)) (and-left _ _ (and-right _ _ named))
named-third objects new first second kinds fields e named = absurd (cc)

made-named : (r : Resident) (object version : ℕ) (fields : List Field) → IsHeardBy WlSubcompositor r object 1 fields
    → AllNamed r (subsurface_made r object version (word_in 0 fields) (word_in 1 fields) (word_in 2 fields))
made-named r object version fields heard =
    let child = word_in 1 fields in
    either r (is_too_deep r.owned.surfaces child (word_in 2 fields)) _ _ tt
    (either r (is_no_subsurface (role_of r child) || (has_subsurface child r || is_some (xdg_of child r.owned.shell))) _ _ tt
    (either r (is_bad_parent r.owned.surfaces child (word_in 2 fields)) _ _ tt
    (named-third r.peer.objects (Some WlSubsurface) WlSurface WlSurface [] fields heard.kinds heard.named)))

subcompositor-named : (r : Resident) (object version opcode : ℕ) (fields : List Field) → IsHeardBy WlSubcompositor r object opcode fields
    → AllNamed r (subcompositor_demand r object version (subcompositor_request opcode fields))
subcompositor-named r object version zero fields heard = tt
subcompositor-named r object version (suc zero) fields heard = made-named r object version fields heard
subcompositor-named r object version (suc (suc opcode)) fields heard = absurd heard.kinds

above-named : (r : Resident) (object parent number : ℕ) (o : Option Member) → AllNamed r (placed_beside object parent (PlaceAbove number) o)
above-named r object parent number None = tt
above-named r object parent number (Some member) = tt

below-named : (r : Resident) (object parent number : ℕ) (o : Option Member) → AllNamed r (placed_beside object parent (PlaceBelow number) o)
below-named r object parent number None = tt
below-named r object parent number (Some member) = tt

subsurface-named : (r : Resident) (object : ℕ) (o : Option Link) → link_of_subsurface object r ≡ o → (request : WlSubsurfaceRequest) → AllNamed r (demand_by_link r object o request)
subsurface-named r object o is subsurface.Destroy = tt
subsurface-named r object None is subsurface.SetSync = tt
subsurface-named r object None is subsurface.SetDesync = tt
subsurface-named r object (Some l) is (subsurface.SetPosition x y) = link-lives r object l is
subsurface-named r object (Some l) is (subsurface.PlaceAbove sibling) = above-named r object l.parent l.number (beside r.owned.surfaces l sibling)
subsurface-named r object (Some l) is (subsurface.PlaceBelow sibling) = below-named r object l.parent l.number (beside r.owned.surfaces l sibling)
subsurface-named r object o is request = tt

-- ---- surfaces

committed-named : (r : Resident) (o : Option Xdg) (object : ℕ) (effect : Effect) → AllNamed r (committed_by o object effect)
committed-named r (Some x) object Configures = either r (is_full x.configures) _ _ tt tt
committed-named r o object effect = tt

-- where the buffer is whole, as without that
whole-named : (r : Resident) (b : Bool) (object : ℕ) (judged : Result Demand Refusal) → AllNamed r judged → AllNamed r (if_whole b object judged)
whole-named r true object judged named = named
whole-named r false object (Ok demand) named = tt
whole-named r false object (Err refusal) named = tt

compositor-named : (r : Resident) (object version : ℕ) (request : WlCompositorRequest) → AllNamed r (compositor_demand r object version request)
compositor-named r object version (compositor.CreateSurface id) = ask-either r (nat_le 256 (length r.owned.surfaces.surfaces)) _ _ tt tt
compositor-named r object version (compositor.CreateRegion id) = own-request r object version (to.ToCompositor (compositor.CreateRegion id))

surface-named : (r : Resident) (object version : ℕ) (request : WlSurfaceRequest) → AllNamed r (surface_demand r object version request)
surface-named r object version surface.Destroy = either r (is_some (xdg_of object r.owned.shell)) _ _ tt tt
surface-named r object version surface.Commit =
    whole-named r (will_be_whole r object) object _ (committed-named r (xdg_of object r.owned.shell) object (effect_of_commit r object))
surface-named r object version (surface.SetBufferTransform transform) = ask-either r (int_le (pos 0) transform && int_le transform (pos 7)) _ _ tt tt
surface-named r object version (surface.SetBufferScale scale) = ask-either r (int_le (pos 1) scale) _ _ tt tt
surface-named r object version request = tt

-- ---- the seat

seat-named : (r : Resident) (object version : ℕ) (request : WlSeatRequest) → AllNamed r (seat_demand object version request)
seat-named r object version (seat.GetPointer id) = tt
seat-named r object version request = tt

pointer-named : (r : Resident) (object : ℕ) (request : WlPointerRequest) → AllNamed r (pointer_demand r object request)
pointer-named r object (pointer.SetCursor serial surface x y) =
    either r (surface == 0) _ _ tt (either r (is_no_cursor (role_of r surface) || is_some (xdg_of surface r.owned.shell)) _ _ tt tt)

-- ---- the shell

base-named : (r : Resident) (object version : ℕ) (request : XdgWmBaseRequest) → AllNamed r (base_demand r object version request)
base-named r object version base.Destroy = ask-either r (list_any (λ x. x.base == object) r.owned.shell) _ _ tt tt
base-named r object version (base.GetXdgSurface id surface) =
    ask-either r (is_foreign (role_of r surface) || is_some (xdg_of surface r.owned.shell)) _ _ tt (ask-either r (has_any r surface) _ _ tt tt)
base-named r object version request = tt

xdg-named : (r : Resident) (o : Option Xdg) (version : ℕ) (request : XdgSurfaceRequest) → AllNamed r (xdg_asked r o version request)
xdg-named r None version request = tt
xdg-named r (Some x) version xdg.Destroy = ask-either r (is_some x.role) _ _ tt tt
xdg-named r (Some x) version (xdg.GetToplevel id) = ask-either r (is_some x.role) _ _ tt (ask-either r (is_no_toplevel (role_of r x.surface)) _ _ tt tt)
xdg-named r (Some x) version (xdg.GetPopup id parent positioner) =
    let p = positioner_of (r.peer.positioners positioner) in
    either r (is_some x.role) _ _ tt
    (either r (is_no_popup (role_of r x.surface)) _ _ tt (either r (may_be_parent (xdg_at parent r.owned.shell)) _ _ (either r (is_complete p) _ _ tt tt) tt))
xdg-named r (Some x) version (xdg.SetWindowGeometry a b width height) =
    let it : Rect = rect a b width height in
    ask-either r (is_some x.role) _ _ (ask-either r (int_lt (pos 0) it.w && int_lt (pos 0) it.h) _ _ tt tt) tt
xdg-named r (Some x) version (xdg.AckConfigure serial) = ask-either r (is_some x.role) _ _ (ask-either r (is_waiting serial x.configures) _ _ tt tt) tt

state-named : (r : Resident) (o : Option Xdg) → AllNamed r (demands (state_asked o))
state-named r None = tt
state-named r (Some x) = ask-either r (option_map_or answers_states (stage_of x) false) _ _ (ask-either r (is_full x.configures) _ _ tt tt) tt

moved-named : (r : Resident) (serial : ℕ) (o : Option Xdg) → AllNamed r (moved_by_pointer serial o)
moved-named r serial None = tt
moved-named r serial (Some x) = tt

gone-named : (r : Resident) (object : ℕ) (o : Option Xdg) → AllNamed r (toplevel_destroyed object o)
gone-named r object None = tt
gone-named r object (Some x) = tt

toplevel-named : (r : Resident) (object : ℕ) (o : Option Xdg) (request : ToplevelRequest) → AllNamed r (toplevel_asked object o request)
toplevel-named r object o toplevel.Destroy = gone-named r object o
toplevel-named r object o (toplevel.Move seat serial) = moved-named r serial o
toplevel-named r object o toplevel.SetMaximized = state-named r o
toplevel-named r object o toplevel.UnsetMaximized = state-named r o
toplevel-named r object o (toplevel.SetFullscreen output) = state-named r o
toplevel-named r object o toplevel.UnsetFullscreen = state-named r o
toplevel-named r object None request = tt
toplevel-named r object (Some x) request = tt

grab-named : (r : Resident) (object serial : ℕ) (x : Xdg) (o : Option Popped) → AllNamed r (grab_of object serial x o)
grab-named r object serial x None = tt
grab-named r object serial x (Some p) = either r p.popup.is_dismissed _ _ tt (either r (is_popup_mapped p) _ _ tt tt)

repositioned-named : (r : Resident) (x : Xdg) (token : ℕ) (p : Positioner) (o : Option Popped) → AllNamed r (repositioned_by x token p o)
repositioned-named r x token p None = tt
repositioned-named r x token p (Some q) = either r (is_configured q && is_full x.configures) _ _ tt (either r (is_complete p) _ _ tt tt)

popup-named : (r : Resident) (object : ℕ) (o : Option Xdg) (request : XdgPopupRequest) → AllNamed r (popup_asked r object o request)
popup-named r object None request = tt
popup-named r object (Some x) popup.Destroy = either r (is_parent x.id r.owned.shell) _ _ tt tt
popup-named r object (Some x) (popup.Grab seat serial) = grab-named r object serial x (popup_at x.id r.owned.shell)
popup-named r object (Some x) (popup.Reposition positioner token) =
    repositioned-named r x token (positioner_of (r.peer.positioners positioner)) (popup_at x.id r.owned.shell)

-- ---- every interface

demanded-named : (interface : Interface) (r : Resident) (object version opcode : ℕ) (fields : List Field) → IsHeardBy interface r object opcode fields
    → AllNamed r (demand_by (request_in interface opcode fields) r object version)
demanded-named WlCompositor r object version opcode fields heard = compositor-named r object version (compositor_request opcode fields)
demanded-named WlSurface r object version opcode fields heard = surface-named r object version (surface_request opcode fields)
demanded-named WlSubcompositor r object version opcode fields heard = subcompositor-named r object version opcode fields heard
demanded-named WlSubsurface r object version opcode fields heard = subsurface-named r object (link_of_subsurface object r) refl (subsurface_request opcode fields)
demanded-named WlSeat r object version opcode fields heard = seat-named r object version (seat_request opcode fields)
demanded-named WlPointer r object version opcode fields heard = pointer-named r object (pointer_request opcode fields)
demanded-named XdgWmBase r object version opcode fields heard = base-named r object version (base_request opcode fields)
demanded-named XdgPositioner r object version opcode fields heard = own-request r object version (request_in XdgPositioner opcode fields)
demanded-named XdgSurface r object version opcode fields heard = xdg-named r (xdg_at object r.owned.shell) version (xdg_request opcode fields)
demanded-named XdgToplevel r object version opcode fields heard = toplevel-named r object (xdg_with object r.owned.shell) (toplevel_request opcode fields)
demanded-named XdgPopup r object version opcode fields heard = popup-named r object (xdg_with object r.owned.shell) (popup_request opcode fields)
demanded-named WlDisplay r object version opcode fields heard = own-request r object version (request_in WlDisplay opcode fields)
demanded-named WlRegistry r object version opcode fields heard = own-request r object version (request_in WlRegistry opcode fields)
demanded-named WlCallback r object version opcode fields heard = own-request r object version (request_in WlCallback opcode fields)
demanded-named WlRegion r object version opcode fields heard = own-request r object version (request_in WlRegion opcode fields)
demanded-named WlShm r object version opcode fields heard = own-request r object version (request_in WlShm opcode fields)
demanded-named WlShmPool r object version opcode fields heard = own-request r object version (request_in WlShmPool opcode fields)
demanded-named WlBuffer r object version opcode fields heard = own-request r object version (request_in WlBuffer opcode fields)
demanded-named WlOutput r object version opcode fields heard = own-request r object version (request_in WlOutput opcode fields)

-- what an accepted message names
pub named : (r : Resident) (object opcode : ℕ) (body : List ℕ) (demand : Demand) → judge_all r object opcode body ≡ Ok demand → Names r demand
named r object opcode body demand e =
    let heard = judged-hears r.peer.objects r.peer.held object opcode (λ version m. demand_of r object version m) body demand e in
    let interface = heard.0.interface in
    subst (λ o. AllNamed r o) heard.3 (demanded-named interface r object heard.0.version opcode heard.1 heard.2)
