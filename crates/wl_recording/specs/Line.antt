-- What a line of a recording asks. A line is meant without its line feed.
use Rattle.std.specs.Prelude.{ℕ, ℤ, pos, neg_ℤ, ◌+◌, ◌-◌, ◌*◌, ◌^◌, Bool, true, false, ◌==◌, ◌&&◌, ◌||◌, not, nat_le, nat_lt, if◌then◌else◌, List, [], ◌∷◌}
use Rattle.std.specs.Prelude.{length, drop, fold, slice_index, codes, Option, Some, None}
use Rattle.std.specs.List.{prefix_len, take_while, list_all}
use Rattle.std.specs.Option.{option_and_then, option_map}
use Rattle.std.specs.Str.{bytes_eq}
use Rattle.wl_recording.specs.declared.line.Line.{Line}
use Rattle.wl_recording.specs.declared.line.Line.TheVariants as line
use Rattle.wl_recording.specs.declared.place.Place.{Place}

-- Spaces part words, and may stand at either end.
abbrev pub after_spaces : List ℕ → List ℕ
after_spaces text = drop (prefix_len (λ b. b == 32) text) text

-- the first word, which is empty if there is none
abbrev pub first_word : List ℕ → List ℕ
first_word text = take_while (λ b. not (b == 32)) (after_spaces text)

-- what follows the first word
abbrev pub after_word : List ℕ → List ℕ
after_word text = drop (prefix_len (λ b. not (b == 32)) (after_spaces text)) (after_spaces text)

-- the text has no word
abbrev pub is_blank : List ℕ → Bool
is_blank text = prefix_len (λ b. b == 32) text == length text

abbrev pub is_digit : ℕ → Bool
is_digit b = nat_le 48 b && nat_le b 57

-- the number that decimal digits spell
abbrev pub value_of : List ℕ → ℕ
value_of digits = fold (λ value b. 10 * value + (b - 48)) 0 digits

-- the number that a word spells: decimal digits, below 2^32; leading zeros are free
abbrev pub number_of : List ℕ → Option ℕ
number_of word =
    if nat_lt 0 (length word) && (list_all is_digit word && nat_lt (value_of word) (2 ^ 32)) then Some (value_of word) else None

-- the number that the only word of a text spells
abbrev pub only_number : List ℕ → Option ℕ
only_number text = if is_blank (after_word text) then number_of (first_word text) else None

-- The coordinate that a word spells: a number from -2^31 to 2^31 - 1, with a `-` before a negative
-- one.
abbrev pub natural_of : ℕ → Option ℤ
natural_of n = if nat_lt n (2 ^ 31) then Some (pos n) else None

abbrev pub negative_of : ℕ → Option ℤ
negative_of n = if nat_le n (2 ^ 31) then Some (neg_ℤ (pos n)) else None

abbrev pub has_minus : List ℕ → Bool
has_minus [] = false
has_minus (b ∷ word) = b == 45

abbrev pub signed_of : List ℕ → Option ℤ
signed_of word =
    if has_minus word then option_and_then negative_of (number_of (drop 1 word)) else option_and_then natural_of (number_of word)

-- whether a button is pressed, by a word: the number 1 or 0
abbrev pub is_pressed : ℕ → Option Bool
is_pressed n = if n == 0 then Some false else if n == 1 then Some true else None

abbrev pub pressed_of : List ℕ → Option Bool
pressed_of word = option_and_then is_pressed (number_of word)

-- the value of a hex digit, in upper or lower case
abbrev pub hex_value : ℕ → Option ℕ
hex_value b =
    if nat_le 48 b && nat_le b 57 then Some (b - 48)
    else if nat_le 97 b && nat_le b 102 then Some (b - 97 + 10)
    else if nat_le 65 b && nat_le b 70 then Some (b - 65 + 10)
    else None

-- the byte that two hex digits spell, the high one first
abbrev pub byte_of : ℕ → ℕ → Option ℕ
byte_of high low = option_and_then (λ h. option_map (λ l. 16 * h + l) (hex_value low)) (hex_value high)

-- a byte before others, if both are spelt
abbrev pub before : Option ℕ → Option (List ℕ) → Option (List ℕ)
before byte bytes = option_and_then (λ b. option_map (λ bs. b ∷ bs) bytes) byte

-- the bytes that a text spells: two hex digits each, with spaces between bytes and at either end
abbrev pub bytes_in : List ℕ → Option (List ℕ)
bytes_in [] = Some []
bytes_in (high ∷ []) = if high == 32 then Some [] else None
bytes_in (high ∷ low ∷ text) = if high == 32 then bytes_in (low ∷ text) else before (byte_of high low) (bytes_in text)

-- these bytes, if there is at least one
abbrev pub some_bytes : List ℕ → Option (List ℕ)
some_bytes [] = None
some_bytes (b ∷ bytes) = Some (b ∷ bytes)

abbrev pub hex_in : List ℕ → Option (List ℕ)
hex_in text = option_and_then some_bytes (bytes_in text)

-- what follows the first three words of a text
abbrev pub after_three : List ℕ → List ℕ
after_three text = after_word (after_word (after_word text))

-- a place in a store, by three numbers: the client, the store, and the byte
abbrev pub place_at : Option ℕ → Option ℕ → Option ℕ → Option Place
place_at client store at =
    option_and_then (λ c. option_and_then (λ k. option_map (λ n. record { client = c; store = k; at = n }) at) store) client

-- the place that the first three words of a text name, and what follows them
abbrev pub place_in : List ℕ → Option Place
place_in text =
    place_at (number_of (first_word text)) (number_of (first_word (after_word text)))
    (number_of (first_word (after_word (after_word text))))

abbrev pub after_place : List ℕ → List ℕ
after_place text = after_three text

-- an ASCII letter
abbrev pub is_letter : ℕ → Bool
is_letter b = (nat_le 65 b && nat_le b 90) || (nat_le 97 b && nat_le b 122)

-- a letter, a digit, `.`, `_` or `-`
abbrev pub is_name_byte : ℕ → Bool
is_name_byte b = (is_letter b || is_digit b) || ((b == 46) || ((b == 95) || (b == 45)))

-- A name has 1 to 64 such bytes, and doesn't begin with `.`.
abbrev pub is_name : List ℕ → Bool
is_name word =
    nat_lt 0 (length word) && (nat_le (length word) 64 && (not (slice_index word 0 == 46) && list_all is_name_byte word))

-- the only word of a text, if it is a name
abbrev pub name_in : List ℕ → Option (List ℕ)
name_in text = if is_blank (after_word text) && is_name (first_word text) then Some (first_word text) else None

-- what a line may ask, with the bytes of a piece as a list
pub data Asked : Type 0 where
  Connect : Asked
  Bytes : ℕ → List ℕ → Asked
  Store : Place → List ℕ → Asked
  File : Place → List ℕ → Asked
  Gone : ℕ → Asked
  Motion : ℕ → ℤ → ℤ → Asked
  Button : ℕ → ℕ → Bool → Asked
  Tick : ℕ → Asked
  Nothing : Asked

abbrev pub asked_piece : List ℕ → Option Asked
asked_piece text =
    option_and_then (λ client. option_map (λ piece. Bytes client piece) (hex_in (after_word text))) (number_of (first_word text))

abbrev pub asked_store : List ℕ → Option Asked
asked_store text = option_and_then (λ place. option_map (λ bytes. Store place bytes) (hex_in (after_place text))) (place_in text)

abbrev pub asked_file : List ℕ → Option Asked
asked_file text = option_and_then (λ place. option_map (λ name. File place name) (name_in (after_place text))) (place_in text)

-- a motion of the pointer, by its words: the time, and the two coordinates of a point
abbrev pub asked_motion_by : List ℕ → List ℕ → List ℕ → Option Asked
asked_motion_by time x y =
    option_and_then (λ t. option_and_then (λ a. option_map (λ b. Motion t a b) (signed_of y)) (signed_of x)) (number_of time)

-- those are the only words of a text
abbrev pub asked_motion : List ℕ → Option Asked
asked_motion text =
    if is_blank (after_three text) then asked_motion_by (first_word text) (first_word (after_word text))
    (first_word (after_word (after_word text)))
    else None

-- a press or a release, by its words: the time, the button's number, and whether it is pressed
abbrev pub asked_button_by : List ℕ → List ℕ → List ℕ → Option Asked
asked_button_by time code pressed =
    option_and_then (λ t. option_and_then (λ c. option_map (λ p. Button t c p) (pressed_of pressed)) (number_of code)) (number_of time)

-- those are the only words of a text
abbrev pub asked_button : List ℕ → Option Asked
asked_button text =
    if is_blank (after_three text) then asked_button_by (first_word text) (first_word (after_word text))
    (first_word (after_word (after_word text)))
    else None

-- what a line asks, by its first word and what follows it
abbrev pub asked_with : List ℕ → List ℕ → Option Asked
asked_with word rest =
    if length word == 0 then Some Nothing
    else if bytes_eq word (codes "connect") then (if is_blank rest then Some Connect else None)
    else if bytes_eq word (codes "bytes") then asked_piece rest
    else if bytes_eq word (codes "store") then asked_store rest
    else if bytes_eq word (codes "file") then asked_file rest
    else if bytes_eq word (codes "gone") then option_map (λ client. Gone client) (only_number rest)
    else if bytes_eq word (codes "motion") then asked_motion rest
    else if bytes_eq word (codes "button") then asked_button rest
    else if bytes_eq word (codes "tick") then option_map (λ time. Tick time) (only_number rest)
    else None

-- A comment begins with `#`.
abbrev pub is_comment : List ℕ → Bool
is_comment [] = false
is_comment (b ∷ text) = b == 35

-- What a line asks, if it is one. A comment and a line without words ask nothing.
abbrev pub asked_by : List ℕ → Option Asked
asked_by text = if is_comment text then Some Nothing else asked_with (first_word text) (after_word text)

-- what a parsed line means, with the bytes that it spells
abbrev pub meaning : List ℕ → Line → Asked
meaning piece line.Connect = Connect
meaning piece (line.Bytes client) = Bytes client piece
meaning piece (line.Store place) = Store place piece
meaning piece (line.File place name) = File place name.now
meaning piece (line.Gone client) = Gone client
meaning piece (line.Motion time x y) = Motion time x y
meaning piece (line.Button time code pressed) = Button time code pressed
meaning piece (line.Tick time) = Tick time
meaning piece line.Nothing = Nothing
