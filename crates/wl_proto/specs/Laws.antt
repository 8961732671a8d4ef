-- Laws about requests and events as bytes.
use Rattle.std.specs.Prelude.{◌≡◌, ℕ, ◌-◌, List, [], ◌++◌, map, take, drop, length, Some, Ok}
use Rattle.std.specs.List.{AllByRecursion}
use Rattle.wl_wire.specs.declared.header.Split.TheVariants as split
use Rattle.wl_wire.specs.Wire.{Field, kind_of, IsInRange, SpellsMessage, split_of}
use Rattle.wl_wire.specs.Laws.{AreBytes}
use Rattle.wl_proto.specs.declared.interface.Interface.{Interface}
use Rattle.wl_proto.specs.Table.{Signature, kinds_of, request_at}
use Rattle.wl_proto.specs.Messages.{Message, says}
use Rattle.wl_proto.specs.Spelling.{SpellsEvent, decoded}

-- The bytes spell a whole request, header and body, to an object of the interface at the version.
pub record SpellsCall (object : ℕ) (interface : Interface) (version opcode : ℕ) (fields : List Field) (bytes : List ℕ) : Type 0 where
  pub signature : Signature
  pub known : request_at interface version opcode ≡ Some signature
  pub kinds : map kind_of fields ≡ kinds_of signature.arguments
  pub in_range : AllByRecursion IsInRange fields
  pub message : SpellsMessage object opcode fields bytes

-- A request at the front of a stream is found, whatever follows, and its body says what was spelled.
pub record IsFound (object : ℕ) (interface : Interface) (version opcode : ℕ) (fields : List Field) (size : ℕ) (stream : List ℕ) : Type 0
  where
    pub header : split_of stream ≡ split.Message object opcode size
    pub body : decoded interface version opcode (take (size - 8) (drop 8 stream)) ≡ Ok (says interface opcode fields)

abbrev pub RequestsAreFound : Type 0
RequestsAreFound =
    (object : ℕ) (interface : Interface) (version opcode : ℕ) (fields : List Field) (bytes more : List ℕ)
    → AreBytes bytes
    → SpellsCall object interface version opcode fields bytes
    → IsFound object interface version opcode fields (length bytes) (bytes ++ more)

-- an event at the front of a stream is found, whatever follows
abbrev pub EventsAreFound : Type 0
EventsAreFound =
    (object : ℕ) (event : Message) (bytes more : List ℕ)
    → SpellsEvent object event bytes
    → split_of (bytes ++ more) ≡ split.Message object event.opcode (length bytes)

-- A spelling of a request that begins with a spelling of a request is that spelling.
abbrev pub NoRequestBeginsAnother : Type 0
NoRequestBeginsAnother =
    (object object' : ℕ) (interface interface' : Interface) (version version' opcode opcode' : ℕ) (fields fields' : List Field)
    (bytes more : List ℕ)
    → SpellsCall object interface version opcode fields bytes
    → SpellsCall object' interface' version' opcode' fields' (bytes ++ more)
    → more ≡ []

abbrev pub NoEventBeginsAnother : Type 0
NoEventBeginsAnother =
    (object object' : ℕ) (event event' : Message) (bytes more : List ℕ)
    → SpellsEvent object event bytes
    → SpellsEvent object' event' (bytes ++ more)
    → more ≡ []
