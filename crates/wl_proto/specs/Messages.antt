-- What each request and each event says on the wire: the interface, the opcode, and the arguments in the order of
-- wayland.xml and xdg-shell.xml.
use Rattle.std.specs.Prelude.{ℕ, List, [], ◌∷◌}
use Rattle.wl_wire.specs.Wire.{Field, Word, Number, Text, Block}
use Rattle.wl_proto.specs.declared.interface.Interface.{Interface}
use Rattle.wl_proto.specs.declared.interface.Interface.TheVariants.{WlDisplay, WlRegistry, WlCallback, WlCompositor, WlRegion}
use Rattle.wl_proto.specs.declared.interface.Interface.TheVariants.{WlSurface, WlShm, WlShmPool, WlBuffer, WlSubcompositor}
use Rattle.wl_proto.specs.declared.interface.Interface.TheVariants.{WlSubsurface, WlOutput, WlSeat, WlPointer, XdgWmBase, XdgPositioner}
use Rattle.wl_proto.specs.declared.interface.Interface.TheVariants.{XdgSurface, XdgToplevel, XdgPopup}
use Rattle.wl_proto.specs.declared.wl_display.WlDisplayRequest.{WlDisplayRequest}
use Rattle.wl_proto.specs.declared.wl_display.WlDisplayRequest.TheVariants as wl_display_requests
use Rattle.wl_proto.specs.declared.wl_display.WlDisplayEvent.{WlDisplayEvent}
use Rattle.wl_proto.specs.declared.wl_display.WlDisplayEvent.TheVariants as wl_display_events
use Rattle.wl_proto.specs.declared.wl_registry.WlRegistryRequest.{WlRegistryRequest}
use Rattle.wl_proto.specs.declared.wl_registry.WlRegistryRequest.TheVariants as wl_registry_requests
use Rattle.wl_proto.specs.declared.wl_registry.WlRegistryEvent.{WlRegistryEvent}
use Rattle.wl_proto.specs.declared.wl_registry.WlRegistryEvent.TheVariants as wl_registry_events
use Rattle.wl_proto.specs.declared.wl_callback.WlCallbackEvent.{WlCallbackEvent}
use Rattle.wl_proto.specs.declared.wl_callback.WlCallbackEvent.TheVariants as wl_callback_events
use Rattle.wl_proto.specs.declared.wl_compositor.WlCompositorRequest.{WlCompositorRequest}
use Rattle.wl_proto.specs.declared.wl_compositor.WlCompositorRequest.TheVariants as wl_compositor_requests
use Rattle.wl_proto.specs.declared.wl_region.WlRegionRequest.{WlRegionRequest}
use Rattle.wl_proto.specs.declared.wl_region.WlRegionRequest.TheVariants as wl_region_requests
use Rattle.wl_proto.specs.declared.wl_surface.WlSurfaceRequest.{WlSurfaceRequest}
use Rattle.wl_proto.specs.declared.wl_surface.WlSurfaceRequest.TheVariants as wl_surface_requests
use Rattle.wl_proto.specs.declared.wl_shm.WlShmRequest.{WlShmRequest}
use Rattle.wl_proto.specs.declared.wl_shm.WlShmRequest.TheVariants as wl_shm_requests
use Rattle.wl_proto.specs.declared.wl_shm.WlShmEvent.{WlShmEvent}
use Rattle.wl_proto.specs.declared.wl_shm.WlShmEvent.TheVariants as wl_shm_events
use Rattle.wl_proto.specs.declared.wl_shm_pool.WlShmPoolRequest.{WlShmPoolRequest}
use Rattle.wl_proto.specs.declared.wl_shm_pool.WlShmPoolRequest.TheVariants as wl_shm_pool_requests
use Rattle.wl_proto.specs.declared.wl_buffer.WlBufferRequest.{WlBufferRequest}
use Rattle.wl_proto.specs.declared.wl_buffer.WlBufferRequest.TheVariants as wl_buffer_requests
use Rattle.wl_proto.specs.declared.wl_buffer.WlBufferEvent.{WlBufferEvent}
use Rattle.wl_proto.specs.declared.wl_buffer.WlBufferEvent.TheVariants as wl_buffer_events
use Rattle.wl_proto.specs.declared.wl_subcompositor.WlSubcompositorRequest.{WlSubcompositorRequest}
use Rattle.wl_proto.specs.declared.wl_subcompositor.WlSubcompositorRequest.TheVariants as wl_subcompositor_requests
use Rattle.wl_proto.specs.declared.wl_subsurface.WlSubsurfaceRequest.{WlSubsurfaceRequest}
use Rattle.wl_proto.specs.declared.wl_subsurface.WlSubsurfaceRequest.TheVariants as wl_subsurface_requests
use Rattle.wl_proto.specs.declared.wl_output.WlOutputEvent.{WlOutputEvent}
use Rattle.wl_proto.specs.declared.wl_output.WlOutputEvent.TheVariants as wl_output_events
use Rattle.wl_proto.specs.declared.wl_seat.WlSeatRequest.{WlSeatRequest}
use Rattle.wl_proto.specs.declared.wl_seat.WlSeatRequest.TheVariants as wl_seat_requests
use Rattle.wl_proto.specs.declared.wl_seat.WlSeatEvent.{WlSeatEvent}
use Rattle.wl_proto.specs.declared.wl_seat.WlSeatEvent.TheVariants as wl_seat_events
use Rattle.wl_proto.specs.declared.wl_pointer.WlPointerRequest.{WlPointerRequest}
use Rattle.wl_proto.specs.declared.wl_pointer.WlPointerRequest.TheVariants as wl_pointer_requests
use Rattle.wl_proto.specs.declared.wl_pointer.WlPointerEvent.{WlPointerEvent}
use Rattle.wl_proto.specs.declared.wl_pointer.WlPointerEvent.TheVariants as wl_pointer_events
use Rattle.wl_proto.specs.declared.xdg_wm_base.XdgWmBaseRequest.{XdgWmBaseRequest}
use Rattle.wl_proto.specs.declared.xdg_wm_base.XdgWmBaseRequest.TheVariants as xdg_wm_base_requests
use Rattle.wl_proto.specs.declared.xdg_positioner.XdgPositionerRequest.{XdgPositionerRequest}
use Rattle.wl_proto.specs.declared.xdg_positioner.XdgPositionerRequest.TheVariants as xdg_positioner_requests
use Rattle.wl_proto.specs.declared.xdg_surface.XdgSurfaceRequest.{XdgSurfaceRequest}
use Rattle.wl_proto.specs.declared.xdg_surface.XdgSurfaceRequest.TheVariants as xdg_surface_requests
use Rattle.wl_proto.specs.declared.xdg_surface.XdgSurfaceEvent.{XdgSurfaceEvent}
use Rattle.wl_proto.specs.declared.xdg_surface.XdgSurfaceEvent.TheVariants as xdg_surface_events
use Rattle.wl_proto.specs.declared.xdg_toplevel.XdgToplevelRequest.{XdgToplevelRequest}
use Rattle.wl_proto.specs.declared.xdg_toplevel.XdgToplevelRequest.TheVariants as xdg_toplevel_requests
use Rattle.wl_proto.specs.declared.xdg_toplevel.XdgToplevelEvent.{XdgToplevelEvent}
use Rattle.wl_proto.specs.declared.xdg_toplevel.XdgToplevelEvent.TheVariants as xdg_toplevel_events
use Rattle.wl_proto.specs.declared.xdg_popup.XdgPopupRequest.{XdgPopupRequest}
use Rattle.wl_proto.specs.declared.xdg_popup.XdgPopupRequest.TheVariants as xdg_popup_requests
use Rattle.wl_proto.specs.declared.xdg_popup.XdgPopupEvent.{XdgPopupEvent}
use Rattle.wl_proto.specs.declared.xdg_popup.XdgPopupEvent.TheVariants as xdg_popup_events
use Rattle.wl_proto.specs.declared.request.Request.{Request}
use Rattle.wl_proto.specs.declared.request.Request.TheVariants as requests
use Rattle.wl_proto.specs.declared.event.EventBody.{EventBody}
use Rattle.wl_proto.specs.declared.event.EventBody.TheVariants as events

pub record Message : Type 0 where
  pub interface : Interface
  pub opcode : ℕ
  pub fields : List Field

abbrev pub says : Interface → ℕ → List Field → Message
says interface opcode fields = record { interface = interface; opcode = opcode; fields = fields }

abbrev pub wl_display_request : WlDisplayRequest → Message
wl_display_request (wl_display_requests.Sync callback) = says WlDisplay 0 (Word callback ∷ [])
wl_display_request (wl_display_requests.GetRegistry registry) = says WlDisplay 1 (Word registry ∷ [])

abbrev pub wl_display_event : WlDisplayEvent → Message
wl_display_event (wl_display_events.Error object_id code message) = says WlDisplay 0 (Word object_id ∷ Word code ∷ Text message.now ∷ [])
wl_display_event (wl_display_events.DeleteId id) = says WlDisplay 1 (Word id ∷ [])

abbrev pub wl_registry_request : WlRegistryRequest → Message
wl_registry_request (wl_registry_requests.Bind name interface version id) =
    says WlRegistry 0 (Word name ∷ Text interface.now ∷ Word version ∷ Word id ∷ [])

abbrev pub wl_registry_event : WlRegistryEvent → Message
wl_registry_event (wl_registry_events.Global name interface version) =
    says WlRegistry 0 (Word name ∷ Text interface.now ∷ Word version ∷ [])

abbrev pub wl_callback_event : WlCallbackEvent → Message
wl_callback_event (wl_callback_events.Done callback_data) = says WlCallback 0 (Word callback_data ∷ [])

abbrev pub wl_compositor_request : WlCompositorRequest → Message
wl_compositor_request (wl_compositor_requests.CreateSurface id) = says WlCompositor 0 (Word id ∷ [])
wl_compositor_request (wl_compositor_requests.CreateRegion id) = says WlCompositor 1 (Word id ∷ [])

abbrev pub wl_region_request : WlRegionRequest → Message
wl_region_request wl_region_requests.Destroy = says WlRegion 0 []
wl_region_request (wl_region_requests.Add x y width height) = says WlRegion 1 (Number x ∷ Number y ∷ Number width ∷ Number height ∷ [])
wl_region_request (wl_region_requests.Subtract x y width height) = says WlRegion 2 (Number x ∷ Number y ∷ Number width ∷ Number height ∷ [])

abbrev pub wl_surface_request : WlSurfaceRequest → Message
wl_surface_request wl_surface_requests.Destroy = says WlSurface 0 []
wl_surface_request (wl_surface_requests.Attach buffer x y) = says WlSurface 1 (Word buffer ∷ Number x ∷ Number y ∷ [])
wl_surface_request (wl_surface_requests.Damage x y width height) =
    says WlSurface 2 (Number x ∷ Number y ∷ Number width ∷ Number height ∷ [])
wl_surface_request (wl_surface_requests.Frame callback) = says WlSurface 3 (Word callback ∷ [])
wl_surface_request (wl_surface_requests.SetOpaqueRegion region) = says WlSurface 4 (Word region ∷ [])
wl_surface_request (wl_surface_requests.SetInputRegion region) = says WlSurface 5 (Word region ∷ [])
wl_surface_request wl_surface_requests.Commit = says WlSurface 6 []
wl_surface_request (wl_surface_requests.SetBufferTransform transform) = says WlSurface 7 (Number transform ∷ [])
wl_surface_request (wl_surface_requests.SetBufferScale scale) = says WlSurface 8 (Number scale ∷ [])
wl_surface_request (wl_surface_requests.DamageBuffer x y width height) =
    says WlSurface 9 (Number x ∷ Number y ∷ Number width ∷ Number height ∷ [])

abbrev pub wl_shm_request : WlShmRequest → Message
wl_shm_request (wl_shm_requests.CreatePool id size) = says WlShm 0 (Word id ∷ Number size ∷ [])

abbrev pub wl_shm_event : WlShmEvent → Message
wl_shm_event (wl_shm_events.Format format) = says WlShm 0 (Word format ∷ [])

abbrev pub wl_shm_pool_request : WlShmPoolRequest → Message
wl_shm_pool_request (wl_shm_pool_requests.CreateBuffer id offset width height stride format) =
    says WlShmPool 0 (Word id ∷ Number offset ∷ Number width ∷ Number height ∷ Number stride ∷ Word format ∷ [])
wl_shm_pool_request wl_shm_pool_requests.Destroy = says WlShmPool 1 []
wl_shm_pool_request (wl_shm_pool_requests.Resize size) = says WlShmPool 2 (Number size ∷ [])

abbrev pub wl_buffer_request : WlBufferRequest → Message
wl_buffer_request wl_buffer_requests.Destroy = says WlBuffer 0 []

abbrev pub wl_buffer_event : WlBufferEvent → Message
wl_buffer_event wl_buffer_events.Release = says WlBuffer 0 []

abbrev pub wl_subcompositor_request : WlSubcompositorRequest → Message
wl_subcompositor_request wl_subcompositor_requests.Destroy = says WlSubcompositor 0 []
wl_subcompositor_request (wl_subcompositor_requests.GetSubsurface id surface parent) =
    says WlSubcompositor 1 (Word id ∷ Word surface ∷ Word parent ∷ [])

abbrev pub wl_subsurface_request : WlSubsurfaceRequest → Message
wl_subsurface_request wl_subsurface_requests.Destroy = says WlSubsurface 0 []
wl_subsurface_request (wl_subsurface_requests.SetPosition x y) = says WlSubsurface 1 (Number x ∷ Number y ∷ [])
wl_subsurface_request (wl_subsurface_requests.PlaceAbove sibling) = says WlSubsurface 2 (Word sibling ∷ [])
wl_subsurface_request (wl_subsurface_requests.PlaceBelow sibling) = says WlSubsurface 3 (Word sibling ∷ [])
wl_subsurface_request wl_subsurface_requests.SetSync = says WlSubsurface 4 []
wl_subsurface_request wl_subsurface_requests.SetDesync = says WlSubsurface 5 []

abbrev pub wl_output_event : WlOutputEvent → Message
wl_output_event (wl_output_events.Geometry x y physical_width physical_height subpixel make model transform) =
    says WlOutput 0 (Number x ∷ Number y ∷ Number physical_width ∷ Number physical_height ∷ Number subpixel ∷ Text make.now ∷ Text
    model.now ∷ Number transform ∷ [])
wl_output_event (wl_output_events.Mode flags width height refresh) =
    says WlOutput 1 (Word flags ∷ Number width ∷ Number height ∷ Number refresh ∷ [])

abbrev pub wl_seat_request : WlSeatRequest → Message
wl_seat_request (wl_seat_requests.GetPointer id) = says WlSeat 0 (Word id ∷ [])
wl_seat_request (wl_seat_requests.GetKeyboard id) = says WlSeat 1 (Word id ∷ [])
wl_seat_request (wl_seat_requests.GetTouch id) = says WlSeat 2 (Word id ∷ [])

abbrev pub wl_seat_event : WlSeatEvent → Message
wl_seat_event (wl_seat_events.Capabilities capabilities) = says WlSeat 0 (Word capabilities ∷ [])

abbrev pub wl_pointer_request : WlPointerRequest → Message
wl_pointer_request (wl_pointer_requests.SetCursor serial surface hotspot_x hotspot_y) =
    says WlPointer 0 (Word serial ∷ Word surface ∷ Number hotspot_x ∷ Number hotspot_y ∷ [])

abbrev pub wl_pointer_event : WlPointerEvent → Message
wl_pointer_event (wl_pointer_events.Enter serial surface surface_x surface_y) =
    says WlPointer 0 (Word serial ∷ Word surface ∷ Number surface_x.0 ∷ Number surface_y.0 ∷ [])
wl_pointer_event (wl_pointer_events.Leave serial surface) = says WlPointer 1 (Word serial ∷ Word surface ∷ [])
wl_pointer_event (wl_pointer_events.Motion time surface_x surface_y) =
    says WlPointer 2 (Word time ∷ Number surface_x.0 ∷ Number surface_y.0 ∷ [])
wl_pointer_event (wl_pointer_events.Button serial time button state) =
    says WlPointer 3 (Word serial ∷ Word time ∷ Word button ∷ Word state ∷ [])

abbrev pub xdg_wm_base_request : XdgWmBaseRequest → Message
xdg_wm_base_request xdg_wm_base_requests.Destroy = says XdgWmBase 0 []
xdg_wm_base_request (xdg_wm_base_requests.CreatePositioner id) = says XdgWmBase 1 (Word id ∷ [])
xdg_wm_base_request (xdg_wm_base_requests.GetXdgSurface id surface) = says XdgWmBase 2 (Word id ∷ Word surface ∷ [])
xdg_wm_base_request (xdg_wm_base_requests.Pong serial) = says XdgWmBase 3 (Word serial ∷ [])

abbrev pub xdg_positioner_request : XdgPositionerRequest → Message
xdg_positioner_request xdg_positioner_requests.Destroy = says XdgPositioner 0 []
xdg_positioner_request (xdg_positioner_requests.SetSize width height) = says XdgPositioner 1 (Number width ∷ Number height ∷ [])
xdg_positioner_request (xdg_positioner_requests.SetAnchorRect x y width height) =
    says XdgPositioner 2 (Number x ∷ Number y ∷ Number width ∷ Number height ∷ [])
xdg_positioner_request (xdg_positioner_requests.SetAnchor anchor) = says XdgPositioner 3 (Word anchor ∷ [])
xdg_positioner_request (xdg_positioner_requests.SetGravity gravity) = says XdgPositioner 4 (Word gravity ∷ [])
xdg_positioner_request (xdg_positioner_requests.SetConstraintAdjustment constraint_adjustment) =
    says XdgPositioner 5 (Word constraint_adjustment ∷ [])
xdg_positioner_request (xdg_positioner_requests.SetOffset x y) = says XdgPositioner 6 (Number x ∷ Number y ∷ [])
xdg_positioner_request xdg_positioner_requests.SetReactive = says XdgPositioner 7 []
xdg_positioner_request (xdg_positioner_requests.SetParentSize parent_width parent_height) =
    says XdgPositioner 8 (Number parent_width ∷ Number parent_height ∷ [])
xdg_positioner_request (xdg_positioner_requests.SetParentConfigure serial) = says XdgPositioner 9 (Word serial ∷ [])

abbrev pub xdg_surface_request : XdgSurfaceRequest → Message
xdg_surface_request xdg_surface_requests.Destroy = says XdgSurface 0 []
xdg_surface_request (xdg_surface_requests.GetToplevel id) = says XdgSurface 1 (Word id ∷ [])
xdg_surface_request (xdg_surface_requests.GetPopup id parent positioner) = says XdgSurface 2 (Word id ∷ Word parent ∷ Word positioner ∷ [])
xdg_surface_request (xdg_surface_requests.SetWindowGeometry x y width height) =
    says XdgSurface 3 (Number x ∷ Number y ∷ Number width ∷ Number height ∷ [])
xdg_surface_request (xdg_surface_requests.AckConfigure serial) = says XdgSurface 4 (Word serial ∷ [])

abbrev pub xdg_surface_event : XdgSurfaceEvent → Message
xdg_surface_event (xdg_surface_events.Configure serial) = says XdgSurface 0 (Word serial ∷ [])

abbrev pub xdg_toplevel_request : XdgToplevelRequest → Message
xdg_toplevel_request xdg_toplevel_requests.Destroy = says XdgToplevel 0 []
xdg_toplevel_request (xdg_toplevel_requests.SetParent parent) = says XdgToplevel 1 (Word parent ∷ [])
xdg_toplevel_request (xdg_toplevel_requests.SetTitle title) = says XdgToplevel 2 (Text title.now ∷ [])
xdg_toplevel_request (xdg_toplevel_requests.SetAppId app_id) = says XdgToplevel 3 (Text app_id.now ∷ [])
xdg_toplevel_request (xdg_toplevel_requests.ShowWindowMenu seat serial x y) =
    says XdgToplevel 4 (Word seat ∷ Word serial ∷ Number x ∷ Number y ∷ [])
xdg_toplevel_request (xdg_toplevel_requests.Move seat serial) = says XdgToplevel 5 (Word seat ∷ Word serial ∷ [])
xdg_toplevel_request (xdg_toplevel_requests.Resize seat serial edges) = says XdgToplevel 6 (Word seat ∷ Word serial ∷ Word edges ∷ [])
xdg_toplevel_request (xdg_toplevel_requests.SetMaxSize width height) = says XdgToplevel 7 (Number width ∷ Number height ∷ [])
xdg_toplevel_request (xdg_toplevel_requests.SetMinSize width height) = says XdgToplevel 8 (Number width ∷ Number height ∷ [])
xdg_toplevel_request xdg_toplevel_requests.SetMaximized = says XdgToplevel 9 []
xdg_toplevel_request xdg_toplevel_requests.UnsetMaximized = says XdgToplevel 10 []
xdg_toplevel_request (xdg_toplevel_requests.SetFullscreen output) = says XdgToplevel 11 (Word output ∷ [])
xdg_toplevel_request xdg_toplevel_requests.UnsetFullscreen = says XdgToplevel 12 []
xdg_toplevel_request xdg_toplevel_requests.SetMinimized = says XdgToplevel 13 []

abbrev pub xdg_toplevel_event : XdgToplevelEvent → Message
xdg_toplevel_event (xdg_toplevel_events.Configure width height states) =
    says XdgToplevel 0 (Number width ∷ Number height ∷ Block states.now ∷ [])

abbrev pub xdg_popup_request : XdgPopupRequest → Message
xdg_popup_request xdg_popup_requests.Destroy = says XdgPopup 0 []
xdg_popup_request (xdg_popup_requests.Grab seat serial) = says XdgPopup 1 (Word seat ∷ Word serial ∷ [])
xdg_popup_request (xdg_popup_requests.Reposition positioner token) = says XdgPopup 2 (Word positioner ∷ Word token ∷ [])

abbrev pub xdg_popup_event : XdgPopupEvent → Message
xdg_popup_event (xdg_popup_events.Configure x y width height) = says XdgPopup 0 (Number x ∷ Number y ∷ Number width ∷ Number height ∷ [])
xdg_popup_event xdg_popup_events.PopupDone = says XdgPopup 1 []
xdg_popup_event (xdg_popup_events.Repositioned token) = says XdgPopup 2 (Word token ∷ [])

abbrev pub request_message : Request → Message
request_message (requests.WlDisplay request) = wl_display_request request
request_message (requests.WlRegistry request) = wl_registry_request request
request_message (requests.WlCompositor request) = wl_compositor_request request
request_message (requests.WlRegion request) = wl_region_request request
request_message (requests.WlSurface request) = wl_surface_request request
request_message (requests.WlShm request) = wl_shm_request request
request_message (requests.WlShmPool request) = wl_shm_pool_request request
request_message (requests.WlBuffer request) = wl_buffer_request request
request_message (requests.WlSubcompositor request) = wl_subcompositor_request request
request_message (requests.WlSubsurface request) = wl_subsurface_request request
request_message (requests.WlSeat request) = wl_seat_request request
request_message (requests.WlPointer request) = wl_pointer_request request
request_message (requests.XdgWmBase request) = xdg_wm_base_request request
request_message (requests.XdgPositioner request) = xdg_positioner_request request
request_message (requests.XdgSurface request) = xdg_surface_request request
request_message (requests.XdgToplevel request) = xdg_toplevel_request request
request_message (requests.XdgPopup request) = xdg_popup_request request

abbrev pub event_message : EventBody → Message
event_message (events.WlDisplay event) = wl_display_event event
event_message (events.WlRegistry event) = wl_registry_event event
event_message (events.WlCallback event) = wl_callback_event event
event_message (events.WlShm event) = wl_shm_event event
event_message (events.WlBuffer event) = wl_buffer_event event
event_message (events.WlOutput event) = wl_output_event event
event_message (events.WlSeat event) = wl_seat_event event
event_message (events.WlPointer event) = wl_pointer_event event
event_message (events.XdgSurface event) = xdg_surface_event event
event_message (events.XdgToplevel event) = xdg_toplevel_event event
event_message (events.XdgPopup event) = xdg_popup_event event
