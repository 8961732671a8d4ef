-- Laws about messages as bytes.
use Rattle.std.specs.Prelude.{◌≡◌, ℕ, ◌+◌, ◌^◌, ◌<◌, ◌≤◌, ◌↔◌, List, [], ◌++◌, length, map, Ok, slice_index}
use Rattle.std.specs.List.{AllByRecursion}
use Rattle.wl_wire.specs.declared.header.Split.TheVariants.{Message}
use Rattle.wl_wire.specs.Wire.{Field, Kind, split_of, SpellsMessage, SpellsAll, IsInRange, fields_at, kind_of, message_bytes, fields_bytes}

-- A message is found at the front of a stream, whatever follows.
abbrev pub IsFoundAgain : Type 0
IsFoundAgain =
    (object opcode : ℕ) (fields : List Field) (bytes more : List ℕ)
    → SpellsMessage object opcode fields bytes
    → split_of (bytes ++ more) ≡ Message object opcode (length bytes)

-- A spelling of a message that begins with a spelling of a message is that spelling.
abbrev pub HasNoProperPrefix : Type 0
HasNoProperPrefix =
    (object opcode object' opcode' : ℕ) (fields fields' : List Field) (bytes more : List ℕ)
    → SpellsMessage object opcode fields bytes
    → SpellsMessage object' opcode' fields' (bytes ++ more)
    → more ≡ []

abbrev pub AreBytes : List ℕ → Type 0
AreBytes bytes = (i : ℕ) → slice_index bytes i < 256

-- What is read from a whole body is in range, of the kinds that were asked for, and spelled by the body;
-- and each such list of arguments is read.
abbrev pub IsReadAsSpelled : Type 0
IsReadAsSpelled =
    (kinds : List Kind) (fields : List Field) (bytes : List ℕ)
    → AreBytes bytes
    → (fields_at kinds bytes ≡ Ok fields)
    ↔ ((map kind_of fields ≡ kinds) × AllByRecursion IsInRange fields × SpellsAll fields bytes)

-- What is written is a spelling.
abbrev pub IsSpelledAsWritten : Type 0
IsSpelledAsWritten =
    (object opcode : ℕ) (fields : List Field)
    → object < 2 ^ 32
    → opcode < 2 ^ 16
    → 8 + length (fields_bytes fields) ≤ 65532
    → SpellsMessage object opcode fields (message_bytes object opcode fields)
