-- The lines of a report.
use Rattle.std.specs.Prelude.{ℕ, ◌+◌, ◌/◌, ◌%◌, nat_lt, if◌then◌else◌, List, [], ◌∷◌, ◌++◌, codes}
use Rattle.std.specs.Fmt.{decimal}
use Rattle.spec_desktop.specs.declared.cause.Cause.{Cause}
use Rattle.spec_desktop.specs.declared.cause.Cause.TheVariants.{Protocol, Memory, Slow, Gone}

abbrev pub client_line : ℕ → List ℕ
client_line client = codes "client " ++ decimal client ++ codes "\n"

abbrev pub full_line : List ℕ
full_line = codes "full\n"

abbrev pub none_line : ℕ → List ℕ
none_line client = codes "none " ++ decimal client ++ codes "\n"

-- the client has no store of this number
abbrev pub nostore_line : ℕ → ℕ → List ℕ
nostore_line client store = codes "nostore " ++ decimal client ++ codes " " ++ decimal store ++ codes "\n"

-- the place is outside the store
abbrev pub outside_line : ℕ → ℕ → List ℕ
outside_line client store = codes "outside " ++ decimal client ++ codes " " ++ decimal store ++ codes "\n"

-- a frame was shown, at this time and with so many damaged pixels
abbrev pub frame_line : ℕ → ℕ → List ℕ
frame_line time count = codes "frame " ++ decimal time ++ codes " " ++ decimal count ++ codes "\n"

-- a hex digit in lower case
abbrev pub hex_digit : ℕ → ℕ
hex_digit value = if nat_lt value 10 then 48 + value else 87 + value

-- two hex digits for each byte, the high one first
abbrev pub hex_of : List ℕ → List ℕ
hex_of [] = []
hex_of (b ∷ bytes) = hex_digit (b / 16) ∷ hex_digit (b % 16) ∷ hex_of bytes

abbrev pub to_line : ℕ → List ℕ → List ℕ
to_line client bytes = codes "to " ++ decimal client ++ codes " " ++ hex_of bytes ++ codes "\n"

abbrev pub cause_text : Cause → List ℕ
cause_text (Protocol object code) = codes "protocol " ++ decimal object ++ codes " " ++ decimal code
cause_text Memory = codes "memory"
cause_text Slow = codes "slow"
cause_text Gone = codes "gone"

abbrev pub end_line : ℕ → Cause → List ℕ
end_line client cause = codes "end " ++ decimal client ++ codes " " ++ cause_text cause ++ codes "\n"
