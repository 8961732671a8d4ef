-- Messages as bytes (Wayland protocol, "Wire Format").
use Rattle.std.specs.Prelude.{◌≡◌, ℕ, ℤ, ◌+◌, ◌*◌, ◌/◌, ◌%◌, ◌-◌, ◌^◌, ◌<◌, ◌≤◌, List, [], ◌∷◌, ◌++◌, length, take, drop, map, flat_map}
use Rattle.std.specs.Prelude.{Bool, ◌&&◌, ◌==◌, nat_lt, nat_le, if◌then◌else◌, Result, Ok, Err, MatchResult, slice_index, FitsSigned}
use Rattle.std.specs.Int.{w32, to_le_bytes, from_le_bytes, cast_signed, cast_unsigned}
use Rattle.wl_wire.specs.declared.header.Split.{Split}
use Rattle.wl_wire.specs.declared.header.Split.TheVariants.{Message, More, Bad}
use Rattle.wl_wire.specs.declared.argument.Arg.{Arg}
use Rattle.wl_wire.specs.declared.argument.Arg.TheVariants.{Uint, Int, Fixed, Str, Array, Object, NewId}
use Rattle.wl_wire.specs.declared.error.ArgError.{ArgError}
use Rattle.wl_wire.specs.declared.error.ArgError.TheVariants.{Short, NoNul, Null, Extra}

-- ---- headers

-- the word that starts at a place
abbrev pub word_of : ℕ → List ℕ → ℕ
word_of at bytes = from_le_bytes w32 (take 4 (drop at bytes))

-- a size that a header may give
abbrev pub is_size : ℕ → Bool
is_size size = nat_le 8 size && (nat_le size 65532 && size % 4 == 0)

-- The first message of a stream: the object, the opcode, and the size with the header, in the upper half
-- of the second word. Fewer than eight bytes, or fewer than the size, are no message yet.
abbrev pub split_of : List ℕ → Split
split_of bytes =
    if nat_lt (length bytes) 8
    then More
    else (
    let size = word_of 4 bytes / 65536 in
    if is_size size
    then (if nat_lt (length bytes) size then More else Message (word_of 0 bytes) (word_of 4 bytes % 65536) size)
    else Bad
    )

-- ---- arguments

-- An argument by itself: a uint, the id of an object or a new id; an int, or a fixed as its 256-fold;
-- a string without its final NUL; an array.
pub data Field : Type 0 where
  Word : ℕ → Field
  Number : ℤ → Field
  Text : List ℕ → Field
  Block : List ℕ → Field

-- what a number, or the length of a string with its NUL or of an array, may be
abbrev pub IsInRange : Field → Type 0
IsInRange (Word n) = n < 2 ^ 32
IsInRange (Number z) = FitsSigned w32 z
IsInRange (Text text) = length text + 1 < 2 ^ 32
IsInRange (Block block) = length block < 2 ^ 32

-- how many bytes fill up the last word after n bytes
abbrev pub padding : ℕ → ℕ
padding n = (4 - n % 4) % 4

-- how many bytes are counted, these bytes, and bytes of any value that fill up the last word
abbrev pub Counts : List ℕ → List ℕ → Type 0
Counts counted bytes = (fill : List ℕ) × (length fill ≡ padding (length counted))
    × (bytes ≡ to_le_bytes w32 (length counted) ++ counted ++ fill)

-- The bytes spell the argument.
abbrev pub Spells : Field → List ℕ → Type 0
Spells (Word n) bytes = bytes ≡ to_le_bytes w32 n
Spells (Number z) bytes = bytes ≡ to_le_bytes w32 (cast_unsigned w32 z)
Spells (Text text) bytes = Counts (text ++ 0 ∷ []) bytes
Spells (Block block) bytes = Counts block bytes

-- The bytes spell the arguments, one behind the other, and nothing is left over.
abbrev pub SpellsAll : List Field → List ℕ → Type 0
SpellsAll [] bytes = bytes ≡ []
SpellsAll (field ∷ fields) bytes = (here : List ℕ) × (more : List ℕ) × Spells field here × SpellsAll fields more × (bytes ≡ here ++ more)

-- an argument is spelled at the front of old, and new is what is behind it
abbrev pub Takes : List ℕ → Field → List ℕ → Type 0
Takes old field new = (here : List ℕ) × Spells field here × (old ≡ here ++ new)

-- The bytes spell a message: two words, and the arguments.
pub record SpellsMessage (object opcode : ℕ) (fields : List Field) (bytes : List ℕ) : Type 0 where
  pub body : List ℕ
  pub object_fits : object < 2 ^ 32
  pub opcode_fits : opcode < 2 ^ 16
  pub size_fits : 8 + length body ≤ 65532
  pub arguments : SpellsAll fields body
  pub spelling : bytes ≡ to_le_bytes w32 object ++ to_le_bytes w32 (opcode + 65536 * (8 + length body)) ++ body

-- ---- reading

-- how an argument is spelled: as a number without or with a sign, as a string, as an array
pub data Kind : Type 0 where
  AWord : Kind
  ANumber : Kind
  AText : Kind
  ABlock : Kind

abbrev pub kind_of : Field → Kind
kind_of (Word n) = AWord
kind_of (Number z) = ANumber
kind_of (Text text) = AText
kind_of (Block block) = ABlock

-- a length, the bytes that it counts, and what fills up the last word
abbrev pub whole : ℕ → ℕ
whole count = 4 + count + padding count

-- The string whose length is this and stands in front, or the first fault. Its last byte has to be a NUL.
abbrev pub text_at : ℕ → List ℕ → Result (Field × List ℕ) ArgError
text_at count bytes =
    if count == 0
    then Err Null
    else (
    if nat_lt (length bytes) (whole count)
    then Err Short
    else (if slice_index bytes (3 + count) == 0 then Ok (Text (take (count - 1) (drop 4 bytes)), drop (whole count) bytes) else Err NoNul)
    )

-- the array whose length is this and stands in front
abbrev pub block_at : ℕ → List ℕ → Result (Field × List ℕ) ArgError
block_at count bytes =
    if nat_lt (length bytes) (whole count) then Err Short else Ok (Block (take count (drop 4 bytes)), drop (whole count) bytes)

-- The argument at the front of the bytes and what is behind it, or the first fault.
abbrev pub field_at : Kind → List ℕ → Result (Field × List ℕ) ArgError
field_at AWord bytes = if nat_lt (length bytes) 4 then Err Short else Ok (Word (word_of 0 bytes), drop 4 bytes)
field_at ANumber bytes =
    if nat_lt (length bytes) 4 then Err Short else Ok (Number (cast_signed w32 (word_of 0 bytes)), drop 4 bytes)
field_at AText bytes = if nat_lt (length bytes) 4 then Err Short else text_at (word_of 0 bytes) bytes
field_at ABlock bytes = if nat_lt (length bytes) 4 then Err Short else block_at (word_of 0 bytes) bytes

-- A call reads the argument at the front and leaves what is behind it; or it tells the first fault, and leaves all.
abbrev pub Reads : {T : Type 0} → Kind → (T → Field) → Result T ArgError → List ℕ → List ℕ → Type 0
Reads kind field result old new =
    MatchResult result (λ value. field_at kind old ≡ Ok (field value, new)) (λ fault. (field_at kind old ≡ Err fault) × (new ≡ old))

abbrev pub with_front : Field → Result (List Field) ArgError → Result (List Field) ArgError
with_front field (Ok fields) = Ok (field ∷ fields)
with_front field (Err fault) = Err fault

abbrev pub fields_behind : Result (Field × List ℕ) ArgError → (List ℕ → Result (List Field) ArgError) → Result (List Field) ArgError
fields_behind (Ok x) read = with_front x.0 (read x.1)
fields_behind (Err fault) read = Err fault

abbrev pub none_left : List ℕ → Result (List Field) ArgError
none_left [] = Ok []
none_left (b ∷ bytes) = Err Extra

-- The arguments of these kinds that all of the bytes spell, or the first fault.
abbrev pub fields_at : List Kind → List ℕ → Result (List Field) ArgError
fields_at [] bytes = none_left bytes
fields_at (kind ∷ kinds) bytes = fields_behind (field_at kind bytes) (λ more. fields_at kinds more)

-- ---- writing

-- a length, the bytes that it counts, and zeros that fill up the last word
abbrev pub counted_bytes : List ℕ → List ℕ
counted_bytes counted = to_le_bytes w32 (length counted) ++ counted ++ take (padding (length counted)) (0 ∷ 0 ∷ 0 ∷ [])

abbrev pub field_bytes : Field → List ℕ
field_bytes (Word n) = to_le_bytes w32 n
field_bytes (Number z) = to_le_bytes w32 (cast_unsigned w32 z)
field_bytes (Text text) = counted_bytes (text ++ 0 ∷ [])
field_bytes (Block block) = counted_bytes block

abbrev pub fields_bytes : List Field → List ℕ
fields_bytes fields = flat_map field_bytes fields

-- a header, and the arguments
abbrev pub message_bytes : ℕ → ℕ → List Field → List ℕ
message_bytes object opcode fields =
    to_le_bytes w32 object ++ to_le_bytes w32 (opcode + 65536 * (8 + length (fields_bytes fields))) ++ fields_bytes fields

abbrev pub field_of : Arg → Field
field_of (Uint n) = Word n
field_of (Int z) = Number z
field_of (Fixed f) = Number f.0
field_of (Str text) = Text text.now
field_of (Array block) = Block block.now
field_of (Object n) = Word n
field_of (NewId n) = Word n

abbrev pub fields_of : List Arg → List Field
fields_of args = map field_of args

abbrev pub arg_bytes : Arg → List ℕ
arg_bytes arg = field_bytes (field_of arg)

abbrev pub args_bytes : List Arg → List ℕ
args_bytes args = fields_bytes (fields_of args)

-- the second list begins with the first
abbrev pub IsPrefix : List ℕ → List ℕ → Type 0
IsPrefix old new = (more : List ℕ) × (new ≡ old ++ more)
