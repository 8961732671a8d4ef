-- A line is read as what it was written from.
use Rattle.std.proofs.Common.{rules, ◌≡◌, ◌<◌, ◌+◌, ◌/◌, ◌%◌, ℕ, ℤ, Bool, true, false, not, List, [], ◌∷◌, ◌++◌, Option, Some, None, All, length, refl, ap, sym, ◌∙◌, subst, arith, inl, inr, append_assoc}
use Rattle.std.specs.Prelude.{◌==◌, codes, nat_le, nat_lt, if◌then◌else◌, slice_index}
use Rattle.std.specs.Option.{option_and_then, option_map}
use Rattle.std.specs.Fmt.{decimal, signed_decimal}
use Rattle.std.proofs.lemmas.Bool.{and_parts, cases_lt, le-leb, le-ltb, lt-leb, lt-ltb, ltb-true, ne_eqb}
use Rattle.std.proofs.lemmas.List.Elements.{All-head, All-tail}
use Rattle.wl_recording.specs.Line.{Bytes, Store, File, Motion, Button, asked_button, asked_button_by, asked_file, asked_motion, asked_motion_by, asked_piece, asked_store}
use Rattle.wl_recording.specs.Line.{after_place, after_three, after_word, byte_of, bytes_in, first_word, hex_in, hex_value, is_blank, is_name, is_name_byte, is_pressed, name_in}
use Rattle.wl_recording.specs.Line.{number_of, only_number, place_in, pressed_of, signed_of, some_bytes}
use Rattle.wl_recording.specs.Text.{hex_digit, hex_of}
use Rattle.wl_recording.specs.Written.{IsCoordinate, IsNumber, IsPiece, IsPlace, digit_of, place_text}
use Rattle.wl_recording.specs.declared.place.Place.{Place}
use Rattle.wl_recording.proofs.Names.{all_three, all_words, named}
use Rattle.wl_recording.proofs.Spelling.{bytes_in-pair, bytes_in-space}
use Rattle.wl_recording.proofs.WordsOf.{IsWord, behind, behind_last, decimal_word, first_last, first_of, in_word, list_all-implies, number_is, signed_is, signed_word}

-- A hex digit is no space.
digit_isnt_space : (v : ℕ) → v < 16 → (hex_digit v == 32) ≡ false
digit_isnt_space v small =
    elim (cases_lt v 10) [
      | inl low ↦ rw (lt-ltb v 10 low) (ne_eqb (48 + v) 32 (λ e. omega arith))
      | inr high ↦ rw (le-ltb v 10 high) (ne_eqb (87 + v) 32 (λ e. omega arith))
    ]

digit_value : (v : ℕ) → v < 16 → hex_value (hex_digit v) ≡ Some v
digit_value v small =
    elim (cases_lt v 10) [
      | inl low ↦ rw (lt-ltb v 10 low, le-leb 48 (48 + v) (omega arith), le-leb (48 + v) 57 (omega arith)) (ap Some (omega arith))
      | inr high ↦
          rw (le-ltb v 10 high, lt-leb (87 + v) 57 (omega arith), le-leb 97 (87 + v) (omega arith), le-leb (87 + v) 102 (omega arith), le-leb 48 (87 + v) (omega arith))
          (ap Some (omega arith))
    ]

byte_is : (b : ℕ) → b < 256 → Some b ≡ byte_of (hex_digit (b / 16)) (hex_digit (b % 16))
byte_is b small =
    let high : b / 16 < 16 = omega arith in
    let low : b % 16 < 16 = omega arith in
    rw (digit_value (b / 16) high, digit_value (b % 16) low) (ap Some (omega arith))

hex_is : (bytes : List ℕ) → All (λ b. b < 256) bytes → bytes_in (hex_of bytes) ≡ Some bytes
hex_is [] small = refl
hex_is (b ∷ bytes) small =
    let first : b < 256 = All-head (λ b. b < 256) b bytes small in
    let high : b / 16 < 16 = omega arith in
    bytes_in-pair (hex_digit (b / 16)) (hex_digit (b % 16)) b (hex_of bytes) (digit_isnt_space (b / 16) high) (byte_is b first)
    ∙ rw (hex_is bytes (All-tail (λ b. b < 256) b bytes small)) refl

some_is : (bytes : List ℕ) → 0 < length bytes → some_bytes bytes ≡ Some bytes
some_is [] some = absurd (omega (arith, some))
some_is (b ∷ bytes) some = refl

pub piece_is : (limit : ℕ) (bytes : List ℕ) → IsPiece limit bytes → hex_in (32 ∷ hex_of bytes) ≡ Some bytes
piece_is limit bytes is =
    ap (option_and_then some_bytes) (bytes_in-space 32 (hex_of bytes) refl ∙ hex_is bytes is.2) ∙ some_is bytes is.0

-- the only word of a text
only_is : (text word : List ℕ) (n : ℕ) → first_word text ≡ word → after_word text ≡ [] → number_of word ≡ Some n → only_number text ≡ Some n
only_is text word n first rest is =
    ap (λ (t : List ℕ). if is_blank t then number_of (first_word text) else None) rest ∙ (ap number_of first ∙ is)

pub only_decimal : (n : ℕ) → IsNumber n → only_number (32 ∷ decimal n) ≡ Some n
only_decimal n fits =
    let word = decimal_word n fits in
    only_is (32 ∷ decimal n) (decimal n) n (first_last (decimal n) word) (behind_last (decimal n) word) (number_is n fits)

piece_asked : (text bytes : List ℕ) (client : ℕ) → number_of (first_word text) ≡ Some client → hex_in (after_word text) ≡ Some bytes
    → asked_piece text ≡ Some (Bytes client bytes)
piece_asked text bytes client first hex =
    ap (λ (o : Option ℕ). option_and_then (λ c. option_map (λ piece. Bytes c piece) (hex_in (after_word text))) o) first
    ∙ ap (λ (o : Option (List ℕ)). option_map (λ piece. Bytes client piece) o) hex

pub bytes_asked : (limit client : ℕ) (bytes : List ℕ) → IsNumber client → IsPiece limit bytes
    → asked_piece (32 ∷ (decimal client ++ 32 ∷ hex_of bytes)) ≡ Some (Bytes client bytes)
bytes_asked limit client bytes fits piece =
    let word = decimal_word client fits in
    piece_asked (32 ∷ (decimal client ++ 32 ∷ hex_of bytes)) bytes client (ap number_of (first_of (decimal client) (hex_of bytes) word) ∙ number_is client fits)
    (ap hex_in (behind (decimal client) (hex_of bytes) word) ∙ piece_is limit bytes piece)

-- Three words, with a space before each.
record AreWords (text a b d more : List ℕ) : Type 0 where
  first : first_word text ≡ a
  second : first_word (after_word text) ≡ b
  third : first_word (after_word (after_word text)) ≡ d
  rest : after_three text ≡ more

three_words : (a b d rest : List ℕ) → IsWord a → IsWord b → IsWord d → AreWords (32 ∷ (a ++ 32 ∷ (b ++ 32 ∷ (d ++ 32 ∷ rest)))) a b d (32 ∷ rest)
three_words a b d rest one two three =
    let behind_one = behind a (b ++ 32 ∷ (d ++ 32 ∷ rest)) one in
    let behind_two = ap after_word behind_one ∙ behind b (d ++ 32 ∷ rest) two in
    record {
      first = first_of a (b ++ 32 ∷ (d ++ 32 ∷ rest)) one;
      second = ap first_word behind_one ∙ first_of b (d ++ 32 ∷ rest) two;
      third = ap first_word behind_two ∙ first_of d rest three;
      rest = ap after_word behind_two ∙ behind d rest three;
    }

last_words : (a b d : List ℕ) → IsWord a → IsWord b → IsWord d → AreWords (32 ∷ (a ++ 32 ∷ (b ++ 32 ∷ d))) a b d []
last_words a b d one two three =
    let behind_one = behind a (b ++ 32 ∷ d) one in
    let behind_two = ap after_word behind_one ∙ behind b d two in
    record {
      first = first_of a (b ++ 32 ∷ d) one;
      second = ap first_word behind_one ∙ first_of b d two;
      third = ap first_word behind_two ∙ first_last d three;
      rest = ap after_word behind_two ∙ behind_last d three;
    }

-- a word, and what follows it
pub glue : (front word rest : List ℕ) → front ++ word ++ codes " " ++ rest ≡ front ++ (word ++ 32 ∷ rest)
glue front word rest = append_assoc (front ++ word) (32 ∷ []) rest ∙ append_assoc front word (32 ∷ rest)

-- three words
pub glue_three : (front a b d : List ℕ) → front ++ a ++ codes " " ++ b ++ codes " " ++ d ≡ front ++ (a ++ 32 ∷ (b ++ 32 ∷ d))
glue_three front a b d = glue (front ++ a ++ codes " ") b d ∙ glue front a (b ++ 32 ∷ d)

place_parts : (a b d rest : List ℕ) → (a ++ codes " " ++ b ++ codes " " ++ d) ++ 32 ∷ rest ≡ a ++ 32 ∷ (b ++ 32 ∷ (d ++ 32 ∷ rest))
place_parts a b d rest =
    ap (λ (t : List ℕ). t ++ 32 ∷ rest) (glue (a ++ codes " ") b d ∙ append_assoc a (32 ∷ []) (b ++ 32 ∷ d))
    ∙ (append_assoc a (32 ∷ (b ++ 32 ∷ d)) (32 ∷ rest) ∙ ap (λ (t : List ℕ). a ++ 32 ∷ t) (append_assoc b (32 ∷ d) (32 ∷ rest)))

-- a place before something else
record Begins (found : Place) (more text : List ℕ) : Type 0 where
  place : place_in text ≡ Some found
  rest : after_place text ≡ 32 ∷ more

begins : (place : Place) (rest : List ℕ) → IsPlace place → Begins place rest (32 ∷ (place_text place ++ 32 ∷ rest))
begins place rest fits =
    let a = decimal place.client in
    let b = decimal place.store in
    let d = decimal place.at in
    let words = three_words a b d rest (decimal_word place.client fits.0) (decimal_word place.store fits.1) (decimal_word place.at fits.2) in
    let text = 32 ∷ (a ++ 32 ∷ (b ++ 32 ∷ (d ++ 32 ∷ rest))) in
    let there : Begins place rest text =
    record {
      place = sym (all_three _ _ _ place.client place.store place.at (sym (ap number_of words.first ∙ number_is place.client fits.0))
          (sym (ap number_of words.second ∙ number_is place.store fits.1)) (sym (ap number_of words.third ∙ number_is place.at fits.2)));
      rest = words.rest;
    } in
    subst (λ (t : List ℕ). Begins place rest (32 ∷ t)) (sym (place_parts a b d rest)) there

pub store_asked : (limit : ℕ) (place : Place) (bytes : List ℕ) → IsPlace place → IsPiece limit bytes
    → asked_store (32 ∷ (place_text place ++ 32 ∷ hex_of bytes)) ≡ Some (Store place bytes)
store_asked limit place bytes fits piece =
    let text = 32 ∷ (place_text place ++ 32 ∷ hex_of bytes) in
    let is = begins place (hex_of bytes) fits in
    ap (λ (o : Option Place). option_and_then (λ p. option_map (λ bs. Store p bs) (hex_in (after_place text))) o) is.place
    ∙ ap (λ (o : Option (List ℕ)). option_map (λ bs. Store place bs) o) (ap hex_in is.rest ∙ piece_is limit bytes piece)

name_byte_in_word : (b : ℕ) → is_name_byte b ≡ true → in_word b ≡ true
name_byte_in_word b is = ap not (ne_eqb b 32 (λ e. absurd (search (rules, arith))))

name_word : (name : List ℕ) → is_name name ≡ true → IsWord name
name_word name is =
    let some = and_parts (nat_lt 0 (length name)) _ is in
    let most = and_parts (nat_le (length name) 64) _ some.1 in
    let plain = and_parts (not (slice_index name 0 == 46)) _ most.1 in
    record { some = ltb-true 0 (length name) some.0; plain = list_all-implies is_name_byte in_word name_byte_in_word name plain.1 }

pub file_asked : (place : Place) (name : List ℕ) → IsPlace place → is_name name ≡ true → asked_file (32 ∷ (place_text place ++ 32 ∷ name)) ≡ Some (File place name)
file_asked place name fits is =
    let text = 32 ∷ (place_text place ++ 32 ∷ name) in
    let there = begins place name fits in
    let word = name_word name is in
    let read : name_in (32 ∷ name) ≡ Some name = sym (named (32 ∷ name) name (sym (first_last name word)) (ap is_blank (behind_last name word)) is) in
    ap (λ (o : Option Place). option_and_then (λ p. option_map (λ n. File p n) (name_in (after_place text))) o) there.place
    ∙ ap (λ (o : Option (List ℕ)). option_map (λ n. File place n) o) (ap name_in there.rest ∙ read)

pub motion_asked : (time : ℕ) (x y : ℤ) → IsNumber time → IsCoordinate x → IsCoordinate y
    → asked_motion (32 ∷ (decimal time ++ 32 ∷ (signed_decimal x ++ 32 ∷ signed_decimal y))) ≡ Some (Motion time x y)
motion_asked time x y fits one two =
    let a = decimal time in
    let b = signed_decimal x in
    let d = signed_decimal y in
    let words = last_words a b d (decimal_word time fits) (signed_word x one) (signed_word y two) in
    let by : asked_motion_by a b d ≡ Some (Motion time x y) =
    ap (λ (o : Option ℕ). option_and_then (λ t. option_and_then (λ u. option_map (λ v. Motion t u v) (signed_of d)) (signed_of b)) o) (number_is time fits)
    ∙ (ap (λ (o : Option ℤ). option_and_then (λ u. option_map (λ v. Motion time u v) (signed_of d)) o) (signed_is x one)
    ∙ ap (λ (o : Option ℤ). option_map (λ v. Motion time x v) o) (signed_is y two)) in
    sym (all_words asked_motion_by (32 ∷ (a ++ 32 ∷ (b ++ 32 ∷ d))) a b d _ (sym words.first) (sym words.second) (sym words.third) (ap is_blank words.rest) (sym by))

pub digit_fits : (pressed : Bool) → IsNumber (digit_of pressed)
digit_fits true = omega arith
digit_fits false = omega arith

pressed_is : (pressed : Bool) → pressed_of (decimal (digit_of pressed)) ≡ Some pressed
pressed_is true = ap (option_and_then is_pressed) (number_is 1 (omega arith))
pressed_is false = ap (option_and_then is_pressed) (number_is 0 (omega arith))

pub button_asked : (time code : ℕ) (pressed : Bool) → IsNumber time → IsNumber code
    → asked_button (32 ∷ (decimal time ++ 32 ∷ (decimal code ++ 32 ∷ decimal (digit_of pressed)))) ≡ Some (Button time code pressed)
button_asked time code pressed fits one =
    let a = decimal time in
    let b = decimal code in
    let d = decimal (digit_of pressed) in
    let words = last_words a b d (decimal_word time fits) (decimal_word code one) (decimal_word (digit_of pressed) (digit_fits pressed)) in
    let by : asked_button_by a b d ≡ Some (Button time code pressed) =
    ap (λ (o : Option ℕ). option_and_then (λ t. option_and_then (λ c. option_map (λ p. Button t c p) (pressed_of d)) (number_of b)) o) (number_is time fits)
    ∙ (ap (λ (o : Option ℕ). option_and_then (λ c. option_map (λ p. Button time c p) (pressed_of d)) o) (number_is code one)
    ∙ ap (λ (o : Option Bool). option_map (λ p. Button time code p) o) (pressed_is pressed)) in
    sym (all_words asked_button_by (32 ∷ (a ++ 32 ∷ (b ++ 32 ∷ d))) a b d _ (sym words.first) (sym words.second) (sym words.third) (ap is_blank words.rest) (sym by))
