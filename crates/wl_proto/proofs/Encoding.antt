-- What is appended for an event is a spelling of it.
use Rattle.std.proofs.Common.{◌≡◌, ℕ, ◌+◌, ◌^◌, ◌<◌, List, map, length, Some, Result, Ok, Err, OnOk, IsErrOf, slice_get, lit<, refl, arith}
use Rattle.wl_wire.specs.declared.error.PutError.{PutError}
use Rattle.wl_wire.specs.declared.error.PutError.TheVariants.{TooLong}
use Rattle.wl_wire.specs.Wire.{kind_of, fields_bytes, message_bytes}
use Rattle.wl_wire.proofs.ReadAgain.{spelled_as_written}
use Rattle.wl_proto.specs.declared.event.EventBody.{EventBody}
use Rattle.wl_proto.specs.declared.event.EventBody.TheVariants as events
use Rattle.wl_proto.specs.declared.wl_display.WlDisplayEvent.TheVariants as wl_display
use Rattle.wl_proto.specs.declared.wl_registry.WlRegistryEvent.TheVariants as wl_registry
use Rattle.wl_proto.specs.declared.wl_callback.WlCallbackEvent.TheVariants as wl_callback
use Rattle.wl_proto.specs.declared.wl_shm.WlShmEvent.TheVariants as wl_shm
use Rattle.wl_proto.specs.declared.wl_buffer.WlBufferEvent.TheVariants as wl_buffer
use Rattle.wl_proto.specs.declared.wl_output.WlOutputEvent.TheVariants as wl_output
use Rattle.wl_proto.specs.declared.wl_seat.WlSeatEvent.TheVariants as wl_seat
use Rattle.wl_proto.specs.declared.wl_pointer.WlPointerEvent.TheVariants as wl_pointer
use Rattle.wl_proto.specs.declared.xdg_surface.XdgSurfaceEvent.TheVariants as xdg_surface
use Rattle.wl_proto.specs.declared.xdg_toplevel.XdgToplevelEvent.TheVariants as xdg_toplevel
use Rattle.wl_proto.specs.declared.xdg_popup.XdgPopupEvent.TheVariants as xdg_popup
use Rattle.wl_proto.specs.Table.{Signature, kinds_of, events_of}
use Rattle.wl_proto.specs.Messages.{Message, event_message}
use Rattle.wl_proto.specs.Spelling.{SpellsEvent, Puts}

-- The table has the event.
abbrev pub IsKnown : Message → Type 0
IsKnown event = (signature : Signature) × (slice_get (events_of event.interface) event.opcode ≡ Some signature) × (map kind_of event.fields ≡ kinds_of signature.arguments) × (event.opcode < 2 ^ 16)

pub known : (event : EventBody) → IsKnown (event_message event)
known (events.WlDisplay (wl_display.Error object_id code message)) = (_, refl, refl, lit< tt)
known (events.WlDisplay (wl_display.DeleteId id)) = (_, refl, refl, lit< tt)
known (events.WlRegistry (wl_registry.Global name interface version)) = (_, refl, refl, lit< tt)
known (events.WlCallback (wl_callback.Done callback_data)) = (_, refl, refl, lit< tt)
known (events.WlShm (wl_shm.Format format)) = (_, refl, refl, lit< tt)
known (events.WlBuffer wl_buffer.Release) = (_, refl, refl, lit< tt)
known (events.WlOutput (wl_output.Geometry x y physical_width physical_height subpixel make model transform)) = (_, refl, refl, lit< tt)
known (events.WlOutput (wl_output.Mode flags width height refresh)) = (_, refl, refl, lit< tt)
known (events.WlSeat (wl_seat.Capabilities capabilities)) = (_, refl, refl, lit< tt)
known (events.WlPointer (wl_pointer.Enter serial surface surface_x surface_y)) = (_, refl, refl, lit< tt)
known (events.WlPointer (wl_pointer.Leave serial surface)) = (_, refl, refl, lit< tt)
known (events.WlPointer (wl_pointer.Motion time surface_x surface_y)) = (_, refl, refl, lit< tt)
known (events.WlPointer (wl_pointer.Button serial time button state)) = (_, refl, refl, lit< tt)
known (events.XdgSurface (xdg_surface.Configure serial)) = (_, refl, refl, lit< tt)
known (events.XdgToplevel (xdg_toplevel.Configure width height states)) = (_, refl, refl, lit< tt)
known (events.XdgPopup (xdg_popup.Configure x y width height)) = (_, refl, refl, lit< tt)
known (events.XdgPopup xdg_popup.PopupDone) = (_, refl, refl, lit< tt)
known (events.XdgPopup (xdg_popup.Repositioned token)) = (_, refl, refl, lit< tt)

apart : (r : Result (Unit {0}) PutError) (u : Unit {0}) → r ≡ Ok u → IsErrOf r TooLong → ⊥
apart r u ok err = cc

pub encoded : (object : ℕ) (event : Message) (result : Result (Unit {0}) PutError) (old new : List ℕ) → object < 2 ^ 32 → IsKnown event → Puts object event result old new
    → OnOk result (SpellsEvent object event (message_bytes object event.opcode event.fields))
encoded object event (Ok u) old new fits is puts =
    let short : 65532 < 8 + length (fields_bytes event.fields) → ⊥ = λ long. apart _ u refl (puts.too_long.1 long) in
    record {
      signature = is.0;
      known = is.1;
      kinds = is.2;
      message = spelled_as_written object event.opcode event.fields fits is.3 (omega arith);
    }
encoded object event (Err fault) old new fits is puts = tt
