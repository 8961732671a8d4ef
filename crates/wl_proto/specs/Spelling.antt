-- Which bytes spell which request or event.
use Rattle.std.specs.Prelude.{◌≡◌, ℕ, ◌+◌, List, ◌++◌, map, length, Option, Some, None, Result, Ok, Err, MatchResult, OnOk, OnErr, IsErrOf}
use Rattle.std.specs.Prelude.{◌<◌, ◌≤◌, ◌↔◌, slice_get}
use Rattle.std.specs.List.{AllByRecursion}
use Rattle.wl_wire.specs.declared.error.ArgError.{ArgError}
use Rattle.wl_wire.specs.declared.error.PutError.{PutError}
use Rattle.wl_wire.specs.declared.error.PutError.TheVariants.{TooLong}
use Rattle.wl_wire.specs.Wire.{Field, Kind, kind_of, IsInRange, SpellsAll, SpellsMessage, fields_at, fields_bytes, message_bytes}
use Rattle.wl_proto.specs.declared.interface.Interface.{Interface}
use Rattle.wl_proto.specs.declared.error.ProtoError.{ProtoError}
use Rattle.wl_proto.specs.declared.error.ProtoError.TheVariants.{NoMethod, BadArgs}
use Rattle.wl_proto.specs.Table.{Signature, kinds_of, request_at, events_of}
use Rattle.wl_proto.specs.Messages.{Message}

-- ---- requests

-- The body spells these arguments of the request of an interface at a version.
pub record SpellsRequest (interface : Interface) (version opcode : ℕ) (fields : List Field) (body : List ℕ) : Type 0 where
  pub signature : Signature
  pub known : request_at interface version opcode ≡ Some signature
  pub kinds : map kind_of fields ≡ kinds_of signature.arguments
  pub in_range : AllByRecursion IsInRange fields
  pub spelling : SpellsAll fields body

-- the arguments of these kinds that the whole body spells
abbrev pub as_arguments : Result (List Field) ArgError → Result (List Field) ProtoError
as_arguments (Ok fields) = Ok fields
as_arguments (Err fault) = Err BadArgs

abbrev pub arguments_in : List Kind → List ℕ → Result (List Field) ProtoError
arguments_in kinds body = as_arguments (fields_at kinds body)

abbrev pub as_message : Interface → ℕ → Result (List Field) ProtoError → Result Message ProtoError
as_message interface opcode (Ok fields) = Ok (record { interface = interface; opcode = opcode; fields = fields })
as_message interface opcode (Err fault) = Err fault

abbrev pub message_in : Interface → ℕ → List ℕ → Option Signature → Result Message ProtoError
message_in interface opcode body None = Err NoMethod
message_in interface opcode body (Some signature) = as_message interface opcode (arguments_in (kinds_of signature.arguments) body)

-- what a body says, where the interface has the request at the version
abbrev pub decoded : Interface → ℕ → ℕ → List ℕ → Result Message ProtoError
decoded interface version opcode body = message_in interface opcode body (request_at interface version opcode)

-- What a call answers, seen by view, is this answer.
abbrev pub Gives : {T X : Type 0} → (T → X) → Result T ProtoError → Result X ProtoError → Type 0
Gives view result answer = MatchResult result (λ value. answer ≡ Ok (view value)) (λ fault. answer ≡ Err fault)

-- ---- events

-- The bytes spell an event that an object of an interface sends.
pub record SpellsEvent (object : ℕ) (event : Message) (bytes : List ℕ) : Type 0 where
  pub signature : Signature
  pub known : slice_get (events_of event.interface) event.opcode ≡ Some signature
  pub kinds : map kind_of event.fields ≡ kinds_of signature.arguments
  pub message : SpellsMessage object event.opcode event.fields bytes

-- how many bytes spell an event, its header included
abbrev pub event_size : Message → ℕ
event_size event = 8 + length (fields_bytes event.fields)

-- The event's one spelling with zeros for padding is appended, or nothing is; it is too long above 65,532 bytes.
pub record Puts (object : ℕ) (event : Message) (result : Result (Unit {0}) PutError) (old new : List ℕ) : Type 0 where
  pub ok : OnOk result (new ≡ old ++ message_bytes object event.opcode event.fields)
  pub too_long : IsErrOf result TooLong ↔ (65532 < event_size event)
  pub err : OnErr result (new ≡ old)

-- the size of an event's spelling, or none where it is too long
abbrev pub HasSize : Message → Option ℕ → Type 0
HasSize event None = 65532 < event_size event
HasSize event (Some size) = (size ≡ event_size event) × (size ≤ 65532)
