-- What a message asks, by the names of the requests (wayland.xml, xdg-shell.xml): the one of its opcode, with its arguments in their order.
use Rattle.std.specs.Prelude.{ℕ, ℤ, pos, ◌==◌, if◌then◌else◌, List, [], slice_index_or}
use Rattle.wl_geom.specs.declared.rect.Rect.{Rect}
use Rattle.wl_wire.specs.Wire.{Field, Word, Number, Text, Block}
use Rattle.wl_proto.specs.declared.interface.Interface.{Interface}
use Rattle.wl_proto.specs.declared.interface.Interface.TheVariants.{WlDisplay, WlRegistry, WlCompositor, WlRegion, WlSurface, WlShm}
use Rattle.wl_proto.specs.declared.interface.Interface.TheVariants.{WlShmPool, WlBuffer, WlSubcompositor, WlSubsurface, WlSeat}
use Rattle.wl_proto.specs.declared.interface.Interface.TheVariants.{WlPointer, XdgWmBase, XdgPositioner, XdgSurface, XdgToplevel}
use Rattle.wl_proto.specs.declared.interface.Interface.TheVariants.{XdgPopup}
use Rattle.wl_proto.specs.declared.wl_compositor.WlCompositorRequest.{WlCompositorRequest}
use Rattle.wl_proto.specs.declared.wl_compositor.WlCompositorRequest.TheVariants as compositor
use Rattle.wl_proto.specs.declared.wl_buffer.WlBufferRequest.{WlBufferRequest}
use Rattle.wl_proto.specs.declared.wl_buffer.WlBufferRequest.TheVariants as buffer
use Rattle.wl_proto.specs.declared.wl_display.WlDisplayRequest.{WlDisplayRequest}
use Rattle.wl_proto.specs.declared.wl_display.WlDisplayRequest.TheVariants as display
use Rattle.wl_proto.specs.declared.wl_region.WlRegionRequest.{WlRegionRequest}
use Rattle.wl_proto.specs.declared.wl_region.WlRegionRequest.TheVariants as region
use Rattle.wl_proto.specs.declared.wl_shm.WlShmRequest.{WlShmRequest}
use Rattle.wl_proto.specs.declared.wl_shm.WlShmRequest.TheVariants as shm
use Rattle.wl_proto.specs.declared.wl_shm_pool.WlShmPoolRequest.{WlShmPoolRequest}
use Rattle.wl_proto.specs.declared.wl_shm_pool.WlShmPoolRequest.TheVariants as pool
use Rattle.wl_proto.specs.declared.wl_pointer.WlPointerRequest.{WlPointerRequest}
use Rattle.wl_proto.specs.declared.wl_pointer.WlPointerRequest.TheVariants as pointer
use Rattle.wl_proto.specs.declared.wl_seat.WlSeatRequest.{WlSeatRequest}
use Rattle.wl_proto.specs.declared.wl_seat.WlSeatRequest.TheVariants as seat
use Rattle.wl_proto.specs.declared.wl_subcompositor.WlSubcompositorRequest.{WlSubcompositorRequest}
use Rattle.wl_proto.specs.declared.wl_subcompositor.WlSubcompositorRequest.TheVariants as subcompositor
use Rattle.wl_proto.specs.declared.wl_subsurface.WlSubsurfaceRequest.{WlSubsurfaceRequest}
use Rattle.wl_proto.specs.declared.wl_subsurface.WlSubsurfaceRequest.TheVariants as subsurface
use Rattle.wl_proto.specs.declared.wl_surface.WlSurfaceRequest.{WlSurfaceRequest}
use Rattle.wl_proto.specs.declared.wl_surface.WlSurfaceRequest.TheVariants as surface
use Rattle.wl_proto.specs.declared.xdg_popup.XdgPopupRequest.{XdgPopupRequest}
use Rattle.wl_proto.specs.declared.xdg_popup.XdgPopupRequest.TheVariants as popup
use Rattle.wl_proto.specs.declared.xdg_positioner.XdgPositionerRequest.{XdgPositionerRequest}
use Rattle.wl_proto.specs.declared.xdg_positioner.XdgPositionerRequest.TheVariants as positioner
use Rattle.wl_proto.specs.declared.xdg_surface.XdgSurfaceRequest.{XdgSurfaceRequest}
use Rattle.wl_proto.specs.declared.xdg_surface.XdgSurfaceRequest.TheVariants as xdg
use Rattle.wl_proto.specs.declared.xdg_wm_base.XdgWmBaseRequest.{XdgWmBaseRequest}
use Rattle.wl_proto.specs.declared.xdg_wm_base.XdgWmBaseRequest.TheVariants as base
use Rattle.wl_proto.specs.Messages.{Message}
use Rattle.spec_desktop.specs.ToplevelRequest.{ToplevelRequest}
use Rattle.spec_desktop.specs.ToplevelRequest as toplevel

-- ---- the arguments of a message

abbrev pub word_of_field : Field → ℕ
word_of_field (Word n) = n
word_of_field (Number z) = 0
word_of_field (Text text) = 0
word_of_field (Block block) = 0

abbrev pub number_of_field : Field → ℤ
number_of_field (Number z) = z
number_of_field (Word n) = pos 0
number_of_field (Text text) = pos 0
number_of_field (Block block) = pos 0

abbrev pub text_of_field : Field → List ℕ
text_of_field (Text text) = text
text_of_field (Word n) = []
text_of_field (Number z) = []
text_of_field (Block block) = []

abbrev pub word_in : ℕ → List Field → ℕ
word_in k fields = word_of_field (slice_index_or fields k (Word 0))

abbrev pub number_in : ℕ → List Field → ℤ
number_in k fields = number_of_field (slice_index_or fields k (Word 0))

abbrev pub text_in : ℕ → List Field → List ℕ
text_in k fields = text_of_field (slice_index_or fields k (Word 0))

abbrev pub rect : ℤ → ℤ → ℤ → ℤ → Rect
rect x y w h = record { x = x; y = y; w = w; h = h }

-- ---- requests

-- A request, by the interface of the object that it is sent to; wl_registry's is bind, of a global's name, its interface's name, a version
-- and a new id. A wl_callback and a wl_output take none.
pub data Request : Type 0 where
  ToDisplay : WlDisplayRequest → Request
  ToRegistry : ℕ → List ℕ → ℕ → ℕ → Request
  ToCompositor : WlCompositorRequest → Request
  ToRegion : WlRegionRequest → Request
  ToSurface : WlSurfaceRequest → Request
  ToShm : WlShmRequest → Request
  ToPool : WlShmPoolRequest → Request
  ToBuffer : WlBufferRequest → Request
  ToSubcompositor : WlSubcompositorRequest → Request
  ToSubsurface : WlSubsurfaceRequest → Request
  ToSeat : WlSeatRequest → Request
  ToPointer : WlPointerRequest → Request
  ToBase : XdgWmBaseRequest → Request
  ToPositioner : XdgPositionerRequest → Request
  ToXdgSurface : XdgSurfaceRequest → Request
  ToToplevel : ToplevelRequest → Request
  ToPopup : XdgPopupRequest → Request
  ToNothing : Request

abbrev pub display_request : ℕ → List Field → WlDisplayRequest
display_request opcode fields = if opcode == 0 then display.Sync (word_in 0 fields) else display.GetRegistry (word_in 0 fields)

abbrev pub region_request : ℕ → List Field → WlRegionRequest
region_request opcode fields =
    if opcode == 0 then region.Destroy else (
    if opcode == 1 then region.Add (number_in 0 fields) (number_in 1 fields) (number_in 2 fields) (number_in 3 fields) else
    region.Subtract (number_in 0 fields) (number_in 1 fields) (number_in 2 fields) (number_in 3 fields))

abbrev pub pool_request : ℕ → List Field → WlShmPoolRequest
pool_request opcode fields =
    if opcode == 0 then pool.CreateBuffer (word_in 0 fields) (number_in 1 fields) (number_in 2 fields) (number_in 3 fields)
    (number_in 4 fields) (word_in 5 fields) else (
    if opcode == 1 then pool.Destroy else pool.Resize (number_in 0 fields))

abbrev pub compositor_request : ℕ → List Field → WlCompositorRequest
compositor_request opcode fields = if opcode == 0 then compositor.CreateSurface (word_in 0 fields) else compositor.CreateRegion
    (word_in 0 fields)

abbrev pub surface_request : ℕ → List Field → WlSurfaceRequest
surface_request opcode fields =
    if opcode == 0 then surface.Destroy else (
    if opcode == 1 then surface.Attach (word_in 0 fields) (number_in 1 fields) (number_in 2 fields) else (
    if opcode == 2 then surface.Damage (number_in 0 fields) (number_in 1 fields) (number_in 2 fields) (number_in 3 fields) else (
    if opcode == 3 then surface.Frame (word_in 0 fields) else (
    if opcode == 4 then surface.SetOpaqueRegion (word_in 0 fields) else (
    if opcode == 5 then surface.SetInputRegion (word_in 0 fields) else (
    if opcode == 6 then surface.Commit else (
    if opcode == 7 then surface.SetBufferTransform (number_in 0 fields) else (
    if opcode == 8 then surface.SetBufferScale (number_in 0 fields) else
    surface.DamageBuffer (number_in 0 fields) (number_in 1 fields) (number_in 2 fields) (number_in 3 fields)))))))))

abbrev pub subcompositor_request : ℕ → List Field → WlSubcompositorRequest
subcompositor_request opcode fields =
    if opcode == 0 then subcompositor.Destroy else subcompositor.GetSubsurface (word_in 0 fields) (word_in 1 fields) (word_in 2 fields)

abbrev pub subsurface_request : ℕ → List Field → WlSubsurfaceRequest
subsurface_request opcode fields =
    if opcode == 0 then subsurface.Destroy else (
    if opcode == 1 then subsurface.SetPosition (number_in 0 fields) (number_in 1 fields) else (
    if opcode == 2 then subsurface.PlaceAbove (word_in 0 fields) else (
    if opcode == 3 then subsurface.PlaceBelow (word_in 0 fields) else (
    if opcode == 4 then subsurface.SetSync else subsurface.SetDesync))))

abbrev pub seat_request : ℕ → List Field → WlSeatRequest
seat_request opcode fields =
    if opcode == 0 then seat.GetPointer (word_in 0 fields) else (
    if opcode == 1 then seat.GetKeyboard (word_in 0 fields) else seat.GetTouch (word_in 0 fields))

abbrev pub pointer_request : ℕ → List Field → WlPointerRequest
pointer_request opcode fields = pointer.SetCursor (word_in 0 fields) (word_in 1 fields) (number_in 2 fields) (number_in 3 fields)

abbrev pub base_request : ℕ → List Field → XdgWmBaseRequest
base_request opcode fields =
    if opcode == 0 then base.Destroy else (
    if opcode == 1 then base.CreatePositioner (word_in 0 fields) else (
    if opcode == 2 then base.GetXdgSurface (word_in 0 fields) (word_in 1 fields) else base.Pong (word_in 0 fields)))

abbrev pub positioner_request : ℕ → List Field → XdgPositionerRequest
positioner_request opcode fields =
    if opcode == 0 then positioner.Destroy else (
    if opcode == 1 then positioner.SetSize (number_in 0 fields) (number_in 1 fields) else (
    if opcode == 2 then positioner.SetAnchorRect (number_in 0 fields) (number_in 1 fields) (number_in 2 fields) (number_in 3 fields) else (
    if opcode == 3 then positioner.SetAnchor (word_in 0 fields) else (
    if opcode == 4 then positioner.SetGravity (word_in 0 fields) else (
    if opcode == 5 then positioner.SetConstraintAdjustment (word_in 0 fields) else (
    if opcode == 6 then positioner.SetOffset (number_in 0 fields) (number_in 1 fields) else (
    if opcode == 7 then positioner.SetReactive else (
    if opcode == 8 then positioner.SetParentSize (number_in 0 fields) (number_in 1 fields) else
    positioner.SetParentConfigure (word_in 0 fields)))))))))

abbrev pub xdg_request : ℕ → List Field → XdgSurfaceRequest
xdg_request opcode fields =
    if opcode == 0 then xdg.Destroy else (
    if opcode == 1 then xdg.GetToplevel (word_in 0 fields) else (
    if opcode == 2 then xdg.GetPopup (word_in 0 fields) (word_in 1 fields) (word_in 2 fields) else (
    if opcode == 3 then xdg.SetWindowGeometry (number_in 0 fields) (number_in 1 fields) (number_in 2 fields) (number_in 3 fields) else
    xdg.AckConfigure (word_in 0 fields))))

abbrev pub toplevel_request : ℕ → List Field → ToplevelRequest
toplevel_request opcode fields =
    if opcode == 0 then toplevel.Destroy else (
    if opcode == 1 then toplevel.SetParent (word_in 0 fields) else (
    if opcode == 2 then toplevel.SetTitle (text_in 0 fields) else (
    if opcode == 3 then toplevel.SetAppId (text_in 0 fields) else (
    if opcode == 4 then toplevel.ShowWindowMenu (word_in 0 fields) (word_in 1 fields) (number_in 2 fields) (number_in 3 fields) else (
    if opcode == 5 then toplevel.Move (word_in 0 fields) (word_in 1 fields) else (
    if opcode == 6 then toplevel.Resize (word_in 0 fields) (word_in 1 fields) (word_in 2 fields) else (
    if opcode == 7 then toplevel.SetMaxSize (number_in 0 fields) (number_in 1 fields) else (
    if opcode == 8 then toplevel.SetMinSize (number_in 0 fields) (number_in 1 fields) else (
    if opcode == 9 then toplevel.SetMaximized else (
    if opcode == 10 then toplevel.UnsetMaximized else (
    if opcode == 11 then toplevel.SetFullscreen (word_in 0 fields) else (
    if opcode == 12 then toplevel.UnsetFullscreen else toplevel.SetMinimized))))))))))))

abbrev pub popup_request : ℕ → List Field → XdgPopupRequest
popup_request opcode fields =
    if opcode == 0 then popup.Destroy else (
    if opcode == 1 then popup.Grab (word_in 0 fields) (word_in 1 fields) else popup.Reposition (word_in 0 fields) (word_in 1 fields))

abbrev pub request_in : Interface → ℕ → List Field → Request
request_in WlDisplay opcode fields = ToDisplay (display_request opcode fields)
request_in WlRegistry opcode fields = ToRegistry (word_in 0 fields) (text_in 1 fields) (word_in 2 fields) (word_in 3 fields)
request_in WlCompositor opcode fields = ToCompositor (compositor_request opcode fields)
request_in WlRegion opcode fields = ToRegion (region_request opcode fields)
request_in WlSurface opcode fields = ToSurface (surface_request opcode fields)
request_in WlShm opcode fields = ToShm (shm.CreatePool (word_in 0 fields) (number_in 1 fields))
request_in WlShmPool opcode fields = ToPool (pool_request opcode fields)
request_in WlBuffer opcode fields = ToBuffer buffer.Destroy
request_in WlSubcompositor opcode fields = ToSubcompositor (subcompositor_request opcode fields)
request_in WlSubsurface opcode fields = ToSubsurface (subsurface_request opcode fields)
request_in WlSeat opcode fields = ToSeat (seat_request opcode fields)
request_in WlPointer opcode fields = ToPointer (pointer_request opcode fields)
request_in XdgWmBase opcode fields = ToBase (base_request opcode fields)
request_in XdgPositioner opcode fields = ToPositioner (positioner_request opcode fields)
request_in XdgSurface opcode fields = ToXdgSurface (xdg_request opcode fields)
request_in XdgToplevel opcode fields = ToToplevel (toplevel_request opcode fields)
request_in XdgPopup opcode fields = ToPopup (popup_request opcode fields)
request_in interface opcode fields = ToNothing

abbrev pub request_of : Message → Request
request_of m = request_in m.interface m.opcode m.fields
