-- What a request says on the wire is read as that request.
use Rattle.std.proofs.Common.{◌≡◌, refl}
use Rattle.wl_proto.specs.declared.wl_display.WlDisplayRequest.{WlDisplayRequest}
use Rattle.wl_proto.specs.declared.wl_display.WlDisplayRequest.TheVariants as display
use Rattle.wl_proto.specs.declared.wl_region.WlRegionRequest.{WlRegionRequest}
use Rattle.wl_proto.specs.declared.wl_region.WlRegionRequest.TheVariants as region
use Rattle.wl_proto.specs.declared.wl_shm.WlShmRequest.{WlShmRequest}
use Rattle.wl_proto.specs.declared.wl_shm.WlShmRequest.TheVariants as shm
use Rattle.wl_proto.specs.declared.wl_shm_pool.WlShmPoolRequest.{WlShmPoolRequest}
use Rattle.wl_proto.specs.declared.wl_shm_pool.WlShmPoolRequest.TheVariants as pool
use Rattle.wl_proto.specs.declared.wl_buffer.WlBufferRequest.{WlBufferRequest}
use Rattle.wl_proto.specs.declared.wl_buffer.WlBufferRequest.TheVariants as buffer
use Rattle.wl_proto.specs.declared.wl_registry.WlRegistryRequest.{WlRegistryRequest}
use Rattle.wl_proto.specs.declared.wl_registry.WlRegistryRequest.TheVariants as registry
use Rattle.wl_proto.specs.declared.wl_compositor.WlCompositorRequest.{WlCompositorRequest}
use Rattle.wl_proto.specs.declared.wl_compositor.WlCompositorRequest.TheVariants as compositor
use Rattle.wl_proto.specs.declared.wl_surface.WlSurfaceRequest.{WlSurfaceRequest}
use Rattle.wl_proto.specs.declared.wl_surface.WlSurfaceRequest.TheVariants as surface
use Rattle.wl_proto.specs.declared.wl_subcompositor.WlSubcompositorRequest.{WlSubcompositorRequest}
use Rattle.wl_proto.specs.declared.wl_subcompositor.WlSubcompositorRequest.TheVariants as subcompositor
use Rattle.wl_proto.specs.declared.wl_subsurface.WlSubsurfaceRequest.{WlSubsurfaceRequest}
use Rattle.wl_proto.specs.declared.wl_subsurface.WlSubsurfaceRequest.TheVariants as subsurface
use Rattle.wl_proto.specs.declared.wl_seat.WlSeatRequest.{WlSeatRequest}
use Rattle.wl_proto.specs.declared.wl_seat.WlSeatRequest.TheVariants as seat
use Rattle.wl_proto.specs.declared.wl_pointer.WlPointerRequest.{WlPointerRequest}
use Rattle.wl_proto.specs.declared.wl_pointer.WlPointerRequest.TheVariants as pointer
use Rattle.wl_proto.specs.declared.xdg_wm_base.XdgWmBaseRequest.{XdgWmBaseRequest}
use Rattle.wl_proto.specs.declared.xdg_wm_base.XdgWmBaseRequest.TheVariants as base
use Rattle.wl_proto.specs.declared.xdg_positioner.XdgPositionerRequest.{XdgPositionerRequest}
use Rattle.wl_proto.specs.declared.xdg_positioner.XdgPositionerRequest.TheVariants as positioner
use Rattle.wl_proto.specs.declared.xdg_surface.XdgSurfaceRequest.{XdgSurfaceRequest}
use Rattle.wl_proto.specs.declared.xdg_surface.XdgSurfaceRequest.TheVariants as xdg
use Rattle.wl_proto.specs.declared.xdg_popup.XdgPopupRequest.{XdgPopupRequest}
use Rattle.wl_proto.specs.declared.xdg_popup.XdgPopupRequest.TheVariants as popup
use Rattle.wl_proto.specs.declared.xdg_toplevel.XdgToplevelRequest.{XdgToplevelRequest}
use Rattle.wl_proto.specs.declared.xdg_toplevel.XdgToplevelRequest.TheVariants as xdg_toplevel
use Rattle.wl_proto.specs.Messages.{wl_buffer_request, wl_display_request, wl_region_request, wl_registry_request, wl_shm_request, wl_shm_pool_request, wl_compositor_request, wl_pointer_request}
use Rattle.wl_proto.specs.Messages.{wl_seat_request, wl_subcompositor_request, wl_subsurface_request, wl_surface_request, xdg_popup_request, xdg_positioner_request, xdg_surface_request}
use Rattle.wl_proto.specs.Messages.{xdg_toplevel_request, xdg_wm_base_request}
use Rattle.spec_desktop.specs.Requests.{Request, ToDisplay, ToRegistry, ToRegion, ToShm, ToPool, ToBuffer, ToCompositor, ToSurface, ToSubcompositor, ToSubsurface, ToSeat, ToPointer, ToBase, ToPositioner}
use Rattle.spec_desktop.specs.Requests.{ToXdgSurface, ToToplevel, ToPopup, request_of}
use Rattle.spec_desktop.specs.ToplevelRequest.{ToplevelRequest}
use Rattle.spec_desktop.specs.ToplevelRequest as toplevel

pub of-wl_display : (request : WlDisplayRequest) → request_of (wl_display_request request) ≡ ToDisplay request
of-wl_display (display.Sync callback) = refl
of-wl_display (display.GetRegistry id) = refl

pub of-wl_region : (request : WlRegionRequest) → request_of (wl_region_request request) ≡ ToRegion request
of-wl_region region.Destroy = refl
of-wl_region request = refl

pub of-wl_shm : (request : WlShmRequest) → request_of (wl_shm_request request) ≡ ToShm request
of-wl_shm (shm.CreatePool id size) = refl

pub of-wl_shm_pool : (request : WlShmPoolRequest) → request_of (wl_shm_pool_request request) ≡ ToPool request
of-wl_shm_pool (pool.CreateBuffer id offset width height stride format) = refl
of-wl_shm_pool request = refl

pub of-wl_buffer : (request : WlBufferRequest) → request_of (wl_buffer_request request) ≡ ToBuffer request
of-wl_buffer buffer.Destroy = refl

-- a bind by the bytes of its interface's name
abbrev pub bound : WlRegistryRequest → Request
bound (registry.Bind name interface version id) = ToRegistry name interface.now version id

pub of-wl_registry : (request : WlRegistryRequest) → request_of (wl_registry_request request) ≡ bound request
of-wl_registry (registry.Bind name interface version id) = refl

pub of-wl_compositor : (request : WlCompositorRequest) → request_of (wl_compositor_request request) ≡ ToCompositor request
of-wl_compositor (compositor.CreateSurface id) = refl
of-wl_compositor (compositor.CreateRegion id) = refl

pub of-wl_surface : (request : WlSurfaceRequest) → request_of (wl_surface_request request) ≡ ToSurface request
of-wl_surface surface.Destroy = refl
of-wl_surface request = refl

pub of-wl_subcompositor : (request : WlSubcompositorRequest) → request_of (wl_subcompositor_request request) ≡ ToSubcompositor request
of-wl_subcompositor subcompositor.Destroy = refl
of-wl_subcompositor (subcompositor.GetSubsurface id child parent) = refl

pub of-wl_subsurface : (request : WlSubsurfaceRequest) → request_of (wl_subsurface_request request) ≡ ToSubsurface request
of-wl_subsurface subsurface.Destroy = refl
of-wl_subsurface request = refl

pub of-wl_seat : (request : WlSeatRequest) → request_of (wl_seat_request request) ≡ ToSeat request
of-wl_seat (seat.GetPointer id) = refl
of-wl_seat request = refl

pub of-wl_pointer : (request : WlPointerRequest) → request_of (wl_pointer_request request) ≡ ToPointer request
of-wl_pointer (pointer.SetCursor serial surface x y) = refl

pub of-xdg_wm_base : (request : XdgWmBaseRequest) → request_of (xdg_wm_base_request request) ≡ ToBase request
of-xdg_wm_base base.Destroy = refl
of-xdg_wm_base request = refl

pub of-xdg_positioner : (request : XdgPositionerRequest) → request_of (xdg_positioner_request request) ≡ ToPositioner request
of-xdg_positioner positioner.Destroy = refl
of-xdg_positioner request = refl

pub of-xdg_surface : (request : XdgSurfaceRequest) → request_of (xdg_surface_request request) ≡ ToXdgSurface request
of-xdg_surface xdg.Destroy = refl
of-xdg_surface request = refl

pub of-xdg_popup : (request : XdgPopupRequest) → request_of (xdg_popup_request request) ≡ ToPopup request
of-xdg_popup popup.Destroy = refl
of-xdg_popup request = refl

-- by the bytes of its texts
abbrev pub bare : XdgToplevelRequest → ToplevelRequest
bare xdg_toplevel.Destroy = toplevel.Destroy
bare (xdg_toplevel.SetParent parent) = toplevel.SetParent parent
bare (xdg_toplevel.SetTitle title) = toplevel.SetTitle title.now
bare (xdg_toplevel.SetAppId app_id) = toplevel.SetAppId app_id.now
bare (xdg_toplevel.ShowWindowMenu seat serial x y) = toplevel.ShowWindowMenu seat serial x y
bare (xdg_toplevel.Move seat serial) = toplevel.Move seat serial
bare (xdg_toplevel.Resize seat serial edges) = toplevel.Resize seat serial edges
bare (xdg_toplevel.SetMaxSize width height) = toplevel.SetMaxSize width height
bare (xdg_toplevel.SetMinSize width height) = toplevel.SetMinSize width height
bare xdg_toplevel.SetMaximized = toplevel.SetMaximized
bare xdg_toplevel.UnsetMaximized = toplevel.UnsetMaximized
bare (xdg_toplevel.SetFullscreen output) = toplevel.SetFullscreen output
bare xdg_toplevel.UnsetFullscreen = toplevel.UnsetFullscreen
bare xdg_toplevel.SetMinimized = toplevel.SetMinimized

pub of-xdg_toplevel : (request : XdgToplevelRequest) → request_of (xdg_toplevel_request request) ≡ ToToplevel (bare request)
of-xdg_toplevel xdg_toplevel.Destroy = refl
of-xdg_toplevel request = refl
