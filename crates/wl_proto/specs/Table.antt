-- The messages of each interface (wayland.xml, xdg-shell.xml), in the order of their opcodes, from 0.
use Rattle.std.specs.Prelude.{ℕ, Bool, true, false, Option, Some, None, List, [], ◌∷◌, flat_map, slice_get, nat_le, if◌then◌else◌}
use Rattle.wl_wire.specs.Wire.{Kind, AWord, ANumber, AText, ABlock}
use Rattle.wl_proto.specs.declared.interface.Interface.{Interface}
use Rattle.wl_proto.specs.declared.interface.Interface.TheVariants.{WlDisplay, WlRegistry, WlCallback, WlCompositor, WlRegion}
use Rattle.wl_proto.specs.declared.interface.Interface.TheVariants.{WlSurface, WlShm, WlShmPool, WlBuffer, WlSubcompositor}
use Rattle.wl_proto.specs.declared.interface.Interface.TheVariants.{WlSubsurface, WlOutput, WlSeat, WlPointer, XdgWmBase, XdgPositioner}
use Rattle.wl_proto.specs.declared.interface.Interface.TheVariants.{XdgSurface, XdgToplevel, XdgPopup}

-- An argument of a message. An object is of an interface, and may be null where that is true; only wl_display.error
-- names objects of any interface. A new id is of an interface, if it is one of these. The new id of wl_registry.bind
-- is spelled by a string, the interface's name, by a version and by the id.
pub data Argument : Type 0 where
  AUint : Argument
  AnInt : Argument
  AFixed : Argument
  AString : Argument
  AnArray : Argument
  AnObject : Interface → Bool → Argument
  AnyObject : Argument
  ANewId : Option Interface → Argument
  ANewObject : Argument

-- how an argument is spelled; a descriptor is spelled by no bytes, so none is named here
abbrev pub kinds_of_argument : Argument → List Kind
kinds_of_argument AUint = AWord ∷ []
kinds_of_argument AnInt = ANumber ∷ []
kinds_of_argument AFixed = ANumber ∷ []
kinds_of_argument AString = AText ∷ []
kinds_of_argument AnArray = ABlock ∷ []
kinds_of_argument (AnObject interface nullable) = AWord ∷ []
kinds_of_argument AnyObject = AWord ∷ []
kinds_of_argument (ANewId interface) = AWord ∷ []
kinds_of_argument ANewObject = AText ∷ AWord ∷ AWord ∷ []

abbrev pub kinds_of : List Argument → List Kind
kinds_of arguments = flat_map kinds_of_argument arguments

-- A message of an interface: the version that it came with, none where it was there from the first, and its arguments.
pub record Signature : Type 0 where
  pub since : Option ℕ
  pub arguments : List Argument

abbrev pub message : Option ℕ → List Argument → Signature
message since arguments = record { since = since; arguments = arguments }

abbrev pub requests_of : Interface → List Signature
requests_of WlDisplay =
    message None (ANewId (Some WlCallback) ∷ []) ∷
    message None (ANewId (Some WlRegistry) ∷ []) ∷
    []
requests_of WlRegistry =
    message None (AUint ∷ ANewObject ∷ []) ∷
    []
requests_of WlCallback = []
requests_of WlCompositor =
    message None (ANewId (Some WlSurface) ∷ []) ∷
    message None (ANewId (Some WlRegion) ∷ []) ∷
    []
requests_of WlRegion =
    message None ([]) ∷
    message None (AnInt ∷ AnInt ∷ AnInt ∷ AnInt ∷ []) ∷
    message None (AnInt ∷ AnInt ∷ AnInt ∷ AnInt ∷ []) ∷
    []
requests_of WlSurface =
    message None ([]) ∷
    message None (AnObject WlBuffer true ∷ AnInt ∷ AnInt ∷ []) ∷
    message None (AnInt ∷ AnInt ∷ AnInt ∷ AnInt ∷ []) ∷
    message None (ANewId (Some WlCallback) ∷ []) ∷
    message None (AnObject WlRegion true ∷ []) ∷
    message None (AnObject WlRegion true ∷ []) ∷
    message None ([]) ∷
    message (Some 2) (AnInt ∷ []) ∷
    message (Some 3) (AnInt ∷ []) ∷
    message (Some 4) (AnInt ∷ AnInt ∷ AnInt ∷ AnInt ∷ []) ∷
    []
requests_of WlShm =
    message None (ANewId (Some WlShmPool) ∷ AnInt ∷ []) ∷
    []
requests_of WlShmPool =
    message None (ANewId (Some WlBuffer) ∷ AnInt ∷ AnInt ∷ AnInt ∷ AnInt ∷ AUint ∷ []) ∷
    message None ([]) ∷
    message None (AnInt ∷ []) ∷
    []
requests_of WlBuffer =
    message None ([]) ∷
    []
requests_of WlSubcompositor =
    message None ([]) ∷
    message None (ANewId (Some WlSubsurface) ∷ AnObject WlSurface false ∷ AnObject WlSurface false ∷ []) ∷
    []
requests_of WlSubsurface =
    message None ([]) ∷
    message None (AnInt ∷ AnInt ∷ []) ∷
    message None (AnObject WlSurface false ∷ []) ∷
    message None (AnObject WlSurface false ∷ []) ∷
    message None ([]) ∷
    message None ([]) ∷
    []
requests_of WlOutput = []
requests_of WlSeat =
    message None (ANewId (Some WlPointer) ∷ []) ∷
    message None (ANewId None ∷ []) ∷
    message None (ANewId None ∷ []) ∷
    []
requests_of WlPointer =
    message None (AUint ∷ AnObject WlSurface true ∷ AnInt ∷ AnInt ∷ []) ∷
    []
requests_of XdgWmBase =
    message None ([]) ∷
    message None (ANewId (Some XdgPositioner) ∷ []) ∷
    message None (ANewId (Some XdgSurface) ∷ AnObject WlSurface false ∷ []) ∷
    message None (AUint ∷ []) ∷
    []
requests_of XdgPositioner =
    message None ([]) ∷
    message None (AnInt ∷ AnInt ∷ []) ∷
    message None (AnInt ∷ AnInt ∷ AnInt ∷ AnInt ∷ []) ∷
    message None (AUint ∷ []) ∷
    message None (AUint ∷ []) ∷
    message None (AUint ∷ []) ∷
    message None (AnInt ∷ AnInt ∷ []) ∷
    message (Some 3) ([]) ∷
    message (Some 3) (AnInt ∷ AnInt ∷ []) ∷
    message (Some 3) (AUint ∷ []) ∷
    []
requests_of XdgSurface =
    message None ([]) ∷
    message None (ANewId (Some XdgToplevel) ∷ []) ∷
    message None (ANewId (Some XdgPopup) ∷ AnObject XdgSurface true ∷ AnObject XdgPositioner false ∷ []) ∷
    message None (AnInt ∷ AnInt ∷ AnInt ∷ AnInt ∷ []) ∷
    message None (AUint ∷ []) ∷
    []
requests_of XdgToplevel =
    message None ([]) ∷
    message None (AnObject XdgToplevel true ∷ []) ∷
    message None (AString ∷ []) ∷
    message None (AString ∷ []) ∷
    message None (AnObject WlSeat false ∷ AUint ∷ AnInt ∷ AnInt ∷ []) ∷
    message None (AnObject WlSeat false ∷ AUint ∷ []) ∷
    message None (AnObject WlSeat false ∷ AUint ∷ AUint ∷ []) ∷
    message None (AnInt ∷ AnInt ∷ []) ∷
    message None (AnInt ∷ AnInt ∷ []) ∷
    message None ([]) ∷
    message None ([]) ∷
    message None (AnObject WlOutput true ∷ []) ∷
    message None ([]) ∷
    message None ([]) ∷
    []
requests_of XdgPopup =
    message None ([]) ∷
    message None (AnObject WlSeat false ∷ AUint ∷ []) ∷
    message (Some 3) (AnObject XdgPositioner false ∷ AUint ∷ []) ∷
    []

abbrev pub events_of : Interface → List Signature
events_of WlDisplay =
    message None (AnyObject ∷ AUint ∷ AString ∷ []) ∷
    message None (AUint ∷ []) ∷
    []
events_of WlRegistry =
    message None (AUint ∷ AString ∷ AUint ∷ []) ∷
    []
events_of WlCallback =
    message None (AUint ∷ []) ∷
    []
events_of WlCompositor = []
events_of WlRegion = []
events_of WlSurface = []
events_of WlShm =
    message None (AUint ∷ []) ∷
    []
events_of WlShmPool = []
events_of WlBuffer =
    message None ([]) ∷
    []
events_of WlSubcompositor = []
events_of WlSubsurface = []
events_of WlOutput =
    message None (AnInt ∷ AnInt ∷ AnInt ∷ AnInt ∷ AnInt ∷ AString ∷ AString ∷ AnInt ∷ []) ∷
    message None (AUint ∷ AnInt ∷ AnInt ∷ AnInt ∷ []) ∷
    []
events_of WlSeat =
    message None (AUint ∷ []) ∷
    []
events_of WlPointer =
    message None (AUint ∷ AnObject WlSurface false ∷ AFixed ∷ AFixed ∷ []) ∷
    message None (AUint ∷ AnObject WlSurface false ∷ []) ∷
    message None (AUint ∷ AFixed ∷ AFixed ∷ []) ∷
    message None (AUint ∷ AUint ∷ AUint ∷ AUint ∷ []) ∷
    []
events_of XdgWmBase = []
events_of XdgPositioner = []
events_of XdgSurface =
    message None (AUint ∷ []) ∷
    []
events_of XdgToplevel =
    message None (AnInt ∷ AnInt ∷ AnArray ∷ []) ∷
    []
events_of XdgPopup =
    message None (AnInt ∷ AnInt ∷ AnInt ∷ AnInt ∷ []) ∷
    message None ([]) ∷
    message (Some 3) (AUint ∷ []) ∷
    []

abbrev pub is_in_version : ℕ → Option ℕ → Bool
is_in_version version None = true
is_in_version version (Some since) = nat_le since version

abbrev pub if_in_version : ℕ → Option Signature → Option Signature
if_in_version version None = None
if_in_version version (Some signature) = if is_in_version version signature.since then Some signature else None

-- the request of this opcode, where the interface has one at the version
abbrev pub request_at : Interface → ℕ → ℕ → Option Signature
request_at interface version opcode = if_in_version version (slice_get (requests_of interface) opcode)
