-- The lines of a recording, as they are written.
use Rattle.std.specs.Prelude.{◌≡◌, ◌<◌, ◌≤◌, ◌^◌, ℕ, ℤ, pos, negsuc, Bool, true, if◌then◌else◌, List, [], ◌++◌, All, Some, ⊤}
use Rattle.std.specs.Prelude.{codes, length}
use Rattle.std.specs.Fmt.{decimal, signed_decimal}
use Rattle.wl_recording.specs.Line.{Asked, Connect, Bytes, Store, File, Gone, Motion, Button, Tick, Nothing, asked_by, is_name}
use Rattle.wl_recording.specs.Lines.{InLine}
use Rattle.wl_recording.specs.Text.{hex_of}
use Rattle.wl_recording.specs.declared.place.Place.{Place}

-- 1 if a button is pressed, else 0
abbrev pub digit_of : Bool → ℕ
digit_of pressed = if pressed then 1 else 0

-- a place: the client, the store, and the byte
abbrev pub place_text : Place → List ℕ
place_text place = decimal place.client ++ codes " " ++ decimal place.store ++ codes " " ++ decimal place.at

-- the text that asks this, without a line feed
abbrev pub text_of : Asked → List ℕ
text_of Connect = codes "connect"
text_of (Bytes client piece) = codes "bytes " ++ decimal client ++ codes " " ++ hex_of piece
text_of (Store place bytes) = codes "store " ++ place_text place ++ codes " " ++ hex_of bytes
text_of (File place name) = codes "file " ++ place_text place ++ codes " " ++ name
text_of (Gone client) = codes "gone " ++ decimal client
text_of (Motion time x y) = codes "motion " ++ decimal time ++ codes " " ++ signed_decimal x ++ codes " " ++ signed_decimal y
text_of (Button time code pressed) = codes "button " ++ decimal time ++ codes " " ++ decimal code ++ codes " " ++ decimal (digit_of pressed)
text_of (Tick time) = codes "tick " ++ decimal time
text_of Nothing = []

-- the line that asks this
abbrev pub line_of : Asked → List ℕ
line_of asked = text_of asked ++ codes "\n"

-- the last line of a recording with as many as one may have
abbrev pub last_line : List ℕ
last_line = codes "# the recording ends here: it has as many lines as a recording may have\n"

-- A number fits 32 bits.
abbrev pub IsNumber : ℕ → Type 0
IsNumber n = n < 2 ^ 32

abbrev pub IsPlace : Place → Type 0
IsPlace place = IsNumber place.client × IsNumber place.store × IsNumber place.at

-- A coordinate is from -2^31 to 2^31 - 1.
abbrev pub IsCoordinate : ℤ → Type 0
IsCoordinate (pos n) = n < 2 ^ 31
IsCoordinate (negsuc n) = n < 2 ^ 31

-- the bytes of one line: at least one, and at most `limit`
abbrev pub IsPiece : ℕ → List ℕ → Type 0
IsPiece limit bytes = (0 < length bytes) × (length bytes ≤ limit) × All (λ b. b < 256) bytes

-- A line that spells at most `limit` bytes can ask this.
abbrev pub Fits : ℕ → Asked → Type 0
Fits limit Connect = ⊤
Fits limit (Bytes client piece) = IsNumber client × IsPiece limit piece
Fits limit (Store place bytes) = IsPlace place × IsPiece limit bytes
Fits limit (File place name) = IsPlace place × (is_name name ≡ true)
Fits limit (Gone client) = IsNumber client
Fits limit (Motion time x y) = IsNumber time × IsCoordinate x × IsCoordinate y
Fits limit (Button time code pressed) = IsNumber time × IsNumber code
Fits limit (Tick time) = IsNumber time
Fits limit Nothing = ⊤

-- The text that was written is one line of at most `limit` bytes, without its line feed, and asks
-- just this.
pub record IsReadAs (limit : ℕ) (asked : Asked) : Type 0 where
  pub one : All InLine (text_of asked)
  pub short : length (text_of asked) ≤ limit
  pub asks : asked_by (text_of asked) ≡ Some asked

-- A line is read as what it was written from.
abbrev pub WrittenIsRead : ℕ → ℕ → Type 0
WrittenIsRead piece line = (asked : Asked) → Fits piece asked → IsReadAs line asked
