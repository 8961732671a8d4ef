-- The lines of a text. Each ends with a line feed, which the last may lack.
use Rattle.std.specs.Prelude.{◌≡◌, ◌≢◌, ◌<◌, ◌-◌, ◌==◌, ℕ, if◌then◌else◌, List, [], ◌∷◌, ◌++◌, ◌⊎◌, All, Option, Some, None, ⊤, length}
use Rattle.std.specs.Prelude.{slice_index}
use Rattle.std.specs.Io.KnownBytes.{Consumes, IsAtEnd}
use Rattle.wl_recording.specs.declared.lines.Part.{Part}
use Rattle.wl_recording.specs.declared.lines.Part.TheVariants.{More, LineFeed, End}

-- a byte of a line
abbrev pub InLine : ℕ → Type 0
InLine b = b ≢ 10

-- The known bytes begin with this line, and lose it with its line feed. A line without a line feed
-- ends them, and isn't empty.
abbrev pub TakesLine : Option (List ℕ) → Option (List ℕ) → List ℕ → Type 0
TakesLine None new line = ⊤
TakesLine (Some all) None line = ⊥
TakesLine (Some all) (Some rest) line = All InLine line × ((all ≡ line ++ 10 ∷ rest) ⊎ ((all ≡ line) × (rest ≡ []) × (line ≢ [])))

-- the known bytes begin with more than `limit` bytes of one line
abbrev pub IsTooLong : ℕ → Option (List ℕ) → Type 0
IsTooLong limit None = ⊤
IsTooLong limit (Some all) = (line : List ℕ) × (rest : List ℕ) × (all ≡ line ++ rest) × All InLine line × (limit < length line)

-- how many bytes of the ending don't belong to the line
abbrev pub ending_len : Part → ℕ
ending_len More = 0
ending_len LineFeed = 1
ending_len End = 0

-- what ends these bytes, which have no line feed but at their end
abbrev pub part_of : List ℕ → Part
part_of bytes = if length bytes == 0 then End else if slice_index bytes (length bytes - 1) == 10 then LineFeed else More

-- These bytes of a line were taken, and this ends them.
abbrev pub IsTaken : Part → Option (List ℕ) → Option (List ℕ) → List ℕ → Type 0
IsTaken More old new front = Consumes old new front
IsTaken LineFeed old new front = Consumes old new (front ++ 10 ∷ [])
IsTaken End old new front = (front ≡ []) × IsAtEnd old × Consumes old new []
