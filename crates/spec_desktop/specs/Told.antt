-- What a client is told.
use Rattle.std.specs.Prelude.{ℕ, List, [], ◌∷◌, map, codes, pos, Option, Some, None}
use Rattle.wl_wire.specs.Wire.{Word, Number, Text, message_bytes}
use Rattle.wl_proto.specs.declared.interface.Interface.{Interface}
use Rattle.wl_proto.specs.declared.interface.Interface.TheVariants.{WlBuffer, WlDisplay, WlRegistry, WlCallback, WlShm, WlOutput}
use Rattle.wl_proto.specs.declared.interface.Interface.TheVariants.{WlSeat}
use Rattle.wl_proto.specs.Messages.{Message, says}
use Rattle.spec_desktop.specs.declared.refusals.ErrorCode.{ErrorCode}
use Rattle.spec_desktop.specs.declared.refusals.ErrorCode.TheVariants.{InvalidObject, InvalidMethod, NoMemory, Implementation, MissingCapability}
use Rattle.spec_desktop.specs.declared.refusals.ErrorCode.TheVariants.{InvalidFormat, InvalidStride, InvalidFd, InvalidTransform}
use Rattle.spec_desktop.specs.declared.refusals.ErrorCode.TheVariants.{InvalidScale, InvalidBufferSize}
use Rattle.spec_desktop.specs.declared.refusals.ErrorCode.TheVariants.{SurfaceHasRoleObject, BadSurface, BadParent, Role, DefunctSurfaces}
use Rattle.spec_desktop.specs.declared.refusals.ErrorCode.TheVariants.{NotTheTopmostPopup, InvalidPopupParent, InvalidSurfaceState}
use Rattle.spec_desktop.specs.declared.refusals.ErrorCode.TheVariants.{InvalidPositioner, NotConstructed, AlreadyConstructed, UnconfiguredBuffer}
use Rattle.spec_desktop.specs.declared.refusals.ErrorCode.TheVariants.{InvalidSerial, InvalidSize, DefunctRoleObject, InvalidInput, InvalidGrab}
use Rattle.spec_desktop.specs.declared.refusals.Refusal.{Refusal}
use Rattle.spec_desktop.specs.Objects.{Global, globals}

-- the sides of the output in pixels
pub record Output : Type 0 where
  pub width : ℕ
  pub height : ℕ

-- The codes of errors (the enums error of wl_display, wl_seat, wl_shm, wl_surface, wl_subcompositor, wl_subsurface and wl_pointer in
-- wayland.xml, and of xdg_wm_base, xdg_surface, xdg_positioner and xdg_popup in xdg-shell.xml).
abbrev pub code_number : ErrorCode → ℕ
code_number InvalidObject = 0
code_number InvalidMethod = 1
code_number NoMemory = 2
code_number Implementation = 3
code_number MissingCapability = 0
code_number InvalidFormat = 0
code_number InvalidStride = 1
code_number InvalidFd = 2
code_number InvalidScale = 0
code_number InvalidTransform = 1
code_number InvalidBufferSize = 2
code_number SurfaceHasRoleObject = 4
code_number BadSurface = 0
code_number BadParent = 1
code_number Role = 0
code_number DefunctSurfaces = 1
code_number NotTheTopmostPopup = 2
code_number InvalidPopupParent = 3
code_number InvalidSurfaceState = 4
code_number InvalidPositioner = 5
code_number NotConstructed = 1
code_number AlreadyConstructed = 2
code_number UnconfiguredBuffer = 3
code_number InvalidSerial = 4
code_number InvalidSize = 5
code_number DefunctRoleObject = 6
code_number InvalidInput = 0
code_number InvalidGrab = 0

-- the text of an error is its code's name
abbrev pub code_name : ErrorCode → List ℕ
code_name InvalidObject = codes "invalid_object"
code_name InvalidMethod = codes "invalid_method"
code_name NoMemory = codes "no_memory"
code_name Implementation = codes "implementation"
code_name MissingCapability = codes "missing_capability"
code_name InvalidFormat = codes "invalid_format"
code_name InvalidStride = codes "invalid_stride"
code_name InvalidFd = codes "invalid_fd"
code_name InvalidScale = codes "invalid_scale"
code_name InvalidTransform = codes "invalid_transform"
code_name InvalidBufferSize = codes "invalid_size"
code_name SurfaceHasRoleObject = codes "defunct_role_object"
code_name BadSurface = codes "bad_surface"
code_name BadParent = codes "bad_parent"
code_name Role = codes "role"
code_name DefunctSurfaces = codes "defunct_surfaces"
code_name NotTheTopmostPopup = codes "not_the_topmost_popup"
code_name InvalidPopupParent = codes "invalid_popup_parent"
code_name InvalidSurfaceState = codes "invalid_surface_state"
code_name InvalidPositioner = codes "invalid_positioner"
code_name NotConstructed = codes "not_constructed"
code_name AlreadyConstructed = codes "already_constructed"
code_name UnconfiguredBuffer = codes "unconfigured_buffer"
code_name InvalidSerial = codes "invalid_serial"
code_name InvalidSize = codes "invalid_size"
code_name DefunctRoleObject = codes "defunct_role_object"
code_name InvalidInput = codes "invalid_input"
code_name InvalidGrab = codes "invalid_grab"

-- an error of wl_display, which is sent with object 1
abbrev pub display_error : ErrorCode → Refusal
display_error code = record { object = 1; code = code }

-- what an object says to the client
pub record Said : Type 0 where
  pub object : ℕ
  pub message : Message

abbrev pub said : ℕ → Message → Said
said object message = record { object = object; message = message }

abbrev pub said_bytes : Said → List ℕ
said_bytes event = message_bytes event.object event.message.opcode event.message.fields

-- wl_callback.done and wl_display.delete_id
abbrev pub callback_done : ℕ → Said
callback_done callback = said callback (says WlCallback 0 (Word 0 ∷ []))

abbrev pub id_deleted : ℕ → Said
id_deleted id = said 1 (says WlDisplay 1 (Word id ∷ []))

-- wl_buffer.release of this buffer, if there is one
abbrev pub released_told : Option ℕ → List Said
released_told None = []
released_told (Some buffer) = said buffer (says WlBuffer 0 []) ∷ []

-- wl_display.error
abbrev pub error_told : Refusal → Said
error_told refusal =
    said 1 (says WlDisplay 0 (Word refusal.object ∷ Word (code_number refusal.code) ∷ Text (code_name refusal.code) ∷ []))

-- wl_registry.global
abbrev pub global_told : ℕ → Global → Said
global_told registry global = said registry (says WlRegistry 0 (Word global.name ∷ Text global.text ∷ Word global.version ∷ []))

abbrev pub registry_told : ℕ → List Said
registry_told registry = map (global_told registry) globals

-- wl_shm.format, wl_seat.capabilities, wl_output.geometry and wl_output.mode
abbrev pub format_told : ℕ → ℕ → Said
format_told shm format = said shm (says WlShm 0 (Word format ∷ []))

abbrev pub capabilities_told : ℕ → ℕ → Said
capabilities_told seat capabilities = said seat (says WlSeat 0 (Word capabilities ∷ []))

abbrev pub geometry_told : ℕ → Said
geometry_told id =
    said id (says WlOutput 0 (Number (pos 0) ∷ Number (pos 0) ∷ Number (pos 0) ∷ Number (pos 0) ∷ Number (pos 0) ∷ Text
    (codes "wlframe") ∷ Text (codes "framebuffer") ∷ Number (pos 0) ∷ []))

abbrev pub mode_told : ℕ → Output → Said
mode_told id output = said id (says WlOutput 1 (Word 3 ∷ Number (pos output.width) ∷ Number (pos output.height) ∷ Number (pos 0) ∷ []))

-- What a bound object tells at once: wl_shm both formats, argb8888 and xrgb8888; wl_seat that it has a pointer; wl_output
-- its geometry and its one mode, which is current and preferred (wayland.xml, wl_shm.format, wl_seat.capabilities,
-- wl_output.geometry and mode).
abbrev pub bind_told : Output → ℕ → Interface → List Said
bind_told output id WlShm = format_told id 0 ∷ format_told id 1 ∷ []
bind_told output id WlSeat = capabilities_told id 1 ∷ []
bind_told output id WlOutput = geometry_told id ∷ mode_told id output ∷ []
bind_told output id interface = []
