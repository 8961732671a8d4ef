-- What a message demands where every request is served, or the first error that it has.
use Rattle.std.specs.Prelude.{ℕ, Bool, true, false, if◌then◌else◌, is_some, Option, Some, None, Result, Ok, Err, List, [], ◌∷◌}
use Rattle.wl_proto.specs.declared.wl_compositor.WlCompositorRequest.{WlCompositorRequest}
use Rattle.wl_proto.specs.declared.wl_compositor.WlCompositorRequest.TheVariants as compositor
use Rattle.wl_proto.specs.declared.wl_surface.WlSurfaceRequest.{WlSurfaceRequest}
use Rattle.wl_proto.specs.declared.wl_surface.WlSurfaceRequest.TheVariants as surface
use Rattle.wl_proto.specs.declared.xdg_surface.XdgSurfaceRequest.{XdgSurfaceRequest}
use Rattle.wl_proto.specs.declared.xdg_surface.XdgSurfaceRequest.TheVariants as xdg
use Rattle.wl_proto.specs.declared.xdg_wm_base.XdgWmBaseRequest.{XdgWmBaseRequest}
use Rattle.wl_proto.specs.declared.xdg_wm_base.XdgWmBaseRequest.TheVariants as base
use Rattle.wl_proto.specs.Messages.{Message}
use Rattle.spec_desktop.specs.declared.refusals.ErrorCode.TheVariants.{InvalidBufferSize, SurfaceHasRoleObject}
use Rattle.spec_desktop.specs.declared.refusals.ErrorCode.TheVariants.{UnconfiguredBuffer as unconfigured}
use Rattle.spec_desktop.specs.declared.refusals.Refusal.{Refusal}
use Rattle.spec_desktop.specs.Judgement.{action_of, judged_at}
use Rattle.spec_desktop.specs.Peer.{known_of}
use Rattle.wl_surface.specs.Request.{Attach, Damage, DamageBuffer, SetOpaqueRegion, SetInputRegion}
use Rattle.wl_shell.specs.Popups.{Popped, popped_of}
use Rattle.wl_shell.specs.Shell.{Effect, Stays, Unconfigured, Configures, XdgSurface as Xdg, is_full, on_commit, stage_of, xdg_at}
use Rattle.wl_shell.specs.Shell.{xdg_of}
use Rattle.wl_shell.specs.Shell.{xdg_with}
use Rattle.spec_desktop.specs.Ask.{Ask, AskSurface, Ignore, owns}
use Rattle.spec_desktop.specs.Demand.{Demand, Asks, EndSurface, AskFrame, CommitTree, EndToplevel, Move}
use Rattle.spec_desktop.specs.Desktop.{Resident}
use Rattle.spec_desktop.specs.Requests.{Request, ToCompositor, ToSurface, ToSubcompositor, ToSubsurface, ToSeat, ToPointer, ToBase}
use Rattle.spec_desktop.specs.Requests.{ToXdgSurface, ToToplevel, ToPopup, request_of, rect}
use Rattle.spec_desktop.specs.ToplevelRequest.{ToplevelRequest}
use Rattle.spec_desktop.specs.ToplevelRequest as toplevel
use Rattle.spec_desktop.specs.WlPointer.{pointer_demand, seat_demand}
use Rattle.spec_desktop.specs.WlSubsurface.{past_limit, refuses, subcompositor_demand, subsurface_demand}
use Rattle.spec_desktop.specs.WlSurface.{buffer_named, region_named, scale_set, surface_created, transform_set, will_be_whole}
use Rattle.spec_desktop.specs.WlSurface.{will_show}
use Rattle.spec_desktop.specs.XdgPopup.{popup_demand, popup_made, positioner_of}
use Rattle.spec_desktop.specs.XdgShell.{acknowledged_by, base_destroyed, geometry_set, state_asked, toplevel_made, xdg_surface_destroyed}
use Rattle.spec_desktop.specs.XdgShell.{xdg_surface_made}

abbrev pub demands : Result Ask Refusal → Result Demand Refusal
demands (Ok ask) = Ok (Asks ask)
demands (Err refusal) = Err refusal

-- the request's own errors, and what it asks of the client's own interfaces
abbrev pub own_demand : Resident → ℕ → ℕ → Request → Result Demand Refusal
own_demand r object version request = demands (owns (action_of (known_of r.peer) object version request))

-- wl_compositor
abbrev pub compositor_demand : Resident → ℕ → ℕ → WlCompositorRequest → Result Demand Refusal
compositor_demand r object version (compositor.CreateSurface id) = demands (surface_created r id version)
compositor_demand r object version (compositor.CreateRegion id) = own_demand r object version (ToCompositor (compositor.CreateRegion id))

-- A commit by the stage of the role object, and whether the state that it would give has a buffer. The table isn't used for a popup that
-- was dismissed.
abbrev pub is_dismissed : List Popped → Bool
is_dismissed [] = false
is_dismissed (p ∷ ps) = p.popup.is_dismissed

abbrev pub effect_for_xdg : Bool → Xdg → Effect
effect_for_xdg shows x = if is_dismissed (popped_of x) then Stays else on_commit (stage_of x) shows

abbrev pub effect_on_xdg : Bool → Option Xdg → Effect
effect_on_xdg shows None = Stays
effect_on_xdg shows (Some x) = effect_for_xdg shows x

abbrev pub effect_of_commit : Resident → ℕ → Effect
effect_of_commit r surface = effect_on_xdg (will_show r surface) (xdg_of surface r.owned.shell)

-- a buffer before a configure was acknowledged is an error of the xdg_surface
abbrev pub committed_by : Option Xdg → ℕ → Effect → Result Demand Refusal
committed_by None object effect = Ok (CommitTree object)
committed_by (Some x) object Unconfigured = refuses x.id unconfigured
committed_by (Some x) object Configures = if is_full x.configures then past_limit else Ok (CommitTree object)
committed_by (Some x) object effect = Ok (CommitTree object)

-- then, whatever else it comes to, a buffer whose sides are no multiples of the scale is an error of the surface (wayland.xml, wl_surface.error)
abbrev pub if_whole : Bool → ℕ → Result Demand Refusal → Result Demand Refusal
if_whole true object demand = demand
if_whole false object (Ok demand) = refuses object InvalidBufferSize
if_whole false object (Err refusal) = Err refusal

abbrev pub commit_demand : Resident → ℕ → Result Demand Refusal
commit_demand r object =
    if_whole (will_be_whole r object) object (committed_by (xdg_of object r.owned.shell) object (effect_of_commit r object))

-- wl_surface.destroy: its xdg_surface must be gone
abbrev pub surface_destroyed : Resident → ℕ → Result Demand Refusal
surface_destroyed r object = if is_some (xdg_of object r.owned.shell) then refuses object SurfaceHasRoleObject else Ok (EndSurface object)

-- wl_surface
abbrev pub surface_demand : Resident → ℕ → ℕ → WlSurfaceRequest → Result Demand Refusal
surface_demand r object version surface.Destroy = surface_destroyed r object
surface_demand r object version (surface.Attach buffer x y) = Ok (Asks (AskSurface object (Attach (buffer_named r buffer) x y)))
surface_demand r object version (surface.Damage x y width height) = Ok (Asks (AskSurface object (Damage (rect x y width height))))
surface_demand r object version (surface.Frame callback) = Ok (AskFrame callback version object)
surface_demand r object version (surface.SetOpaqueRegion region) = Ok (Asks (AskSurface object (SetOpaqueRegion (region_named r region))))
surface_demand r object version (surface.SetInputRegion region) = Ok (Asks (AskSurface object (SetInputRegion (region_named r region))))
surface_demand r object version surface.Commit = commit_demand r object
surface_demand r object version (surface.SetBufferTransform transform) = demands (transform_set object transform)
surface_demand r object version (surface.SetBufferScale scale) = demands (scale_set object scale)
surface_demand r object version (surface.DamageBuffer x y width height) =
    Ok (Asks (AskSurface object (DamageBuffer (rect x y width height))))

-- xdg_wm_base
abbrev pub base_demand : Resident → ℕ → ℕ → XdgWmBaseRequest → Result Demand Refusal
base_demand r object version base.Destroy = demands (base_destroyed r object)
base_demand r object version (base.CreatePositioner id) = own_demand r object version (ToBase (base.CreatePositioner id))
base_demand r object version (base.GetXdgSurface id surface) = demands (xdg_surface_made r object version id surface)
base_demand r object version (base.Pong serial) = Ok (Asks Ignore)

-- xdg_surface
abbrev pub xdg_asked : Resident → Option Xdg → ℕ → XdgSurfaceRequest → Result Demand Refusal
xdg_asked r None version request = past_limit
xdg_asked r (Some x) version xdg.Destroy = demands (xdg_surface_destroyed x)
xdg_asked r (Some x) version (xdg.GetToplevel id) = demands (toplevel_made r x version id)
xdg_asked r (Some x) version (xdg.GetPopup id parent positioner) =
    popup_made r x version id parent (positioner_of (r.peer.positioners positioner))
xdg_asked r (Some x) version (xdg.SetWindowGeometry a b width height) = demands (geometry_set x (rect a b width height))
xdg_asked r (Some x) version (xdg.AckConfigure serial) = demands (acknowledged_by x serial)

abbrev pub xdg_demand : Resident → ℕ → ℕ → XdgSurfaceRequest → Result Demand Refusal
xdg_demand r object version request = xdg_asked r (xdg_at object r.owned.shell) version request

-- xdg_toplevel.destroy
abbrev pub toplevel_destroyed : ℕ → Option Xdg → Result Demand Refusal
toplevel_destroyed object None = past_limit
toplevel_destroyed object (Some x) = Ok (EndToplevel object x.id x.surface)

-- xdg_toplevel.move
abbrev pub moved_by_pointer : ℕ → Option Xdg → Result Demand Refusal
moved_by_pointer serial None = past_limit
moved_by_pointer serial (Some x) = Ok (Move x.surface serial)

-- xdg_toplevel: but for these requests none has an effect
abbrev pub toplevel_asked : ℕ → Option Xdg → ToplevelRequest → Result Demand Refusal
toplevel_asked object x toplevel.Destroy = toplevel_destroyed object x
toplevel_asked object x (toplevel.Move by serial) = moved_by_pointer serial x
toplevel_asked object x toplevel.SetMaximized = demands (state_asked x)
toplevel_asked object x toplevel.UnsetMaximized = demands (state_asked x)
toplevel_asked object x (toplevel.SetFullscreen output) = demands (state_asked x)
toplevel_asked object x toplevel.UnsetFullscreen = demands (state_asked x)
toplevel_asked object None request = past_limit
toplevel_asked object (Some x) request = Ok (Asks Ignore)

abbrev pub toplevel_demand : Resident → ℕ → ToplevelRequest → Result Demand Refusal
toplevel_demand r object request = toplevel_asked object (xdg_with object r.owned.shell) request

abbrev pub demand_by : Request → Resident → ℕ → ℕ → Result Demand Refusal
demand_by (ToCompositor request) r object version = compositor_demand r object version request
demand_by (ToSurface request) r object version = surface_demand r object version request
demand_by (ToSubcompositor request) r object version = subcompositor_demand r object version request
demand_by (ToSubsurface request) r object version = subsurface_demand r object request
demand_by (ToSeat request) r object version = seat_demand object version request
demand_by (ToPointer request) r object version = pointer_demand r object request
demand_by (ToBase request) r object version = base_demand r object version request
demand_by (ToXdgSurface request) r object version = xdg_demand r object version request
demand_by (ToToplevel request) r object version = toplevel_demand r object request
demand_by (ToPopup request) r object version = popup_demand r object request
demand_by request r object version = own_demand r object version request

abbrev pub demand_of : Resident → ℕ → ℕ → Message → Result Demand Refusal
demand_of r object version m = demand_by (request_of m) r object version

-- what a message to an object asks, or the first error that it has
abbrev pub judge_all : Resident → ℕ → ℕ → List ℕ → Result Demand Refusal
judge_all r object opcode body =
    judged_at r.peer.objects r.peer.held (λ version m. demand_of r object version m) opcode body (r.peer.objects object)
