-- A line that was written is one line, is short enough, and is read as what it was written from.
use Rattle.std.proofs.Common.{rules, ◌≡◌, ◌≤◌, ◌+◌, ◌*◌, ℕ, ℤ, pos, negsuc, suc, Bool, true, false, not, List, [], ◌∷◌, ◌++◌, Option, Some, All, length, refl, ap, sym, subst, ◌∙◌, arith, inl, inr, length-append}
use Rattle.std.specs.Prelude.{◌==◌, ◌&&◌, ◌/◌, ◌%◌, codes, nat_le, nat_lt, slice_index}
use Rattle.std.specs.List.{list_all}
use Rattle.std.specs.Option.{option_map}
use Rattle.std.specs.Fmt.{decimal, signed_decimal}
use Rattle.std.proofs.lemmas.Bool.{and_from, and_parts, cases_lt, eqb-false, le-ltb, leb-true, lt-ltb, ne_eqb}
use Rattle.std.proofs.lemmas.Fmt.{length-decimal-le}
use Rattle.std.proofs.lemmas.List.Elements.{All-cons, All-nil}
use Rattle.std.proofs.lemmas.List.Folds.{list_all-append}
use Rattle.wl_recording.specs.Line.{Asked, asked_by, Connect, Bytes, Store, File, Gone, Motion, Button, Tick, Nothing, is_digit, is_name, is_name_byte}
use Rattle.wl_recording.specs.Lines.{InLine}
use Rattle.wl_recording.specs.Text.{hex_digit, hex_of}
use Rattle.wl_recording.specs.Written.{Fits, IsCoordinate, IsNumber, IsPiece, IsPlace, IsReadAs, digit_of, place_text, text_of}
use Rattle.wl_recording.specs.declared.place.Place.{Place}
use Rattle.wl_recording.proofs.ReadBack.{button_asked, bytes_asked, digit_fits, file_asked, glue, glue_three, motion_asked, only_decimal, store_asked}
use Rattle.wl_recording.proofs.WordsOf.{decimal_spells, list_all-implies}

-- a byte of a line
abbrev in_line : ℕ → Bool
in_line b = not (b == 10)

not_true : (b : Bool) → not b ≡ true → b ≡ false
not_true true e = absurd (cc)
not_true false e = refl

all_in_line : (xs : List ℕ) → list_all in_line xs ≡ true → All InLine xs
all_in_line [] all = All-nil InLine
all_in_line (b ∷ xs) all =
    let parts = and_parts (in_line b) (list_all in_line xs) all in
    All-cons InLine b xs (eqb-false b 10 (not_true (b == 10) parts.0)) (all_in_line xs parts.1)

-- bytes of a line, at most so many
record Part (most : ℕ) (xs : List ℕ) : Type 0 where
  one : list_all in_line xs ≡ true
  short : length xs ≤ most

both : (m n : ℕ) (xs ys : List ℕ) → Part m xs → Part n ys → Part (m + n) (xs ++ ys)
both m n xs ys front back =
    record {
      one = list_all-append in_line xs ys ∙ and_from (list_all in_line xs) (list_all in_line ys) front.one back.one;
      short = let len = length-append xs ys in omega (arith, len, front.short, back.short);
    }

space : (n : ℕ) (xs : List ℕ) → Part n xs → Part (1 + n) (32 ∷ xs)
space n xs is = record { one = is.one; short = omega (arith, is.short) }

digit_in_line : (b : ℕ) → is_digit b ≡ true → in_line b ≡ true
digit_in_line b is =
    let low : 48 ≤ b = leb-true 48 b (and_parts (nat_le 48 b) (nat_le b 57) is).0 in
    ap not (ne_eqb b 10 (λ e. omega arith))

number : (n : ℕ) → IsNumber n → Part 10 (decimal n)
number n fits =
    record {
      one = list_all-implies is_digit in_line digit_in_line (decimal n) (decimal_spells n fits).digits;
      short = length-decimal-le 10 n (omega arith) (omega arith) (omega arith);
    }

coordinate : (z : ℤ) → IsCoordinate z → Part 11 (signed_decimal z)
coordinate (pos n) fits =
    let is = number n (omega arith) in
    record { one = is.one; short = omega (arith, is.short) }
coordinate (negsuc n) fits =
    let is = number (suc n) (omega arith) in
    record { one = is.one; short = omega (arith, is.short) }

place_part : (place : Place) → IsPlace place → Part 32 (place_text place)
place_part place fits =
    let blank : Part 1 (codes " ") = record { one = refl; short = omega arith } in
    both 22 10 _ (decimal place.at) (both 21 1 _ (codes " ") (both 11 10 _ (decimal place.store) (both 10 1 (decimal place.client) (codes " ") (number place.client fits.0) blank)
    (number place.store fits.1)) blank) (number place.at fits.2)

hex_digit_in_line : (v : ℕ) → in_line (hex_digit v) ≡ true
hex_digit_in_line v =
    elim (cases_lt v 10) [
      | inl low ↦ rw (lt-ltb v 10 low) (ap not (ne_eqb (48 + v) 10 (λ e. omega arith)))
      | inr high ↦ rw (le-ltb v 10 high) (ap not (ne_eqb (87 + v) 10 (λ e. omega arith)))
    ]

hex_in_line : (bytes : List ℕ) → list_all in_line (hex_of bytes) ≡ true
hex_in_line [] = refl
hex_in_line (b ∷ bytes) =
    and_from (in_line (hex_digit (b / 16))) (in_line (hex_digit (b % 16)) && list_all in_line (hex_of bytes)) (hex_digit_in_line (b / 16))
    (and_from (in_line (hex_digit (b % 16))) (list_all in_line (hex_of bytes)) (hex_digit_in_line (b % 16)) (hex_in_line bytes))

hex_len : (bytes : List ℕ) → length (hex_of bytes) ≡ 2 * length bytes
hex_len [] = refl
hex_len (b ∷ bytes) = omega (arith, hex_len bytes)

piece : (limit : ℕ) (bytes : List ℕ) → IsPiece limit bytes → Part (2 * limit) (hex_of bytes)
piece limit bytes is = record { one = hex_in_line bytes; short = omega (arith, hex_len bytes, is.1) }

name_byte_in_line : (b : ℕ) → is_name_byte b ≡ true → in_line b ≡ true
name_byte_in_line b is = ap not (ne_eqb b 10 (λ e. absurd (search (rules, arith))))

name_part : (name : List ℕ) → is_name name ≡ true → Part 64 name
name_part name is =
    let some = and_parts (nat_lt 0 (length name)) _ is in
    let most = and_parts (nat_le (length name) 64) _ some.1 in
    let plain = and_parts (not (slice_index name 0 == 46)) _ most.1 in
    record { one = list_all-implies is_name_byte in_line name_byte_in_line name plain.1; short = leb-true (length name) 64 most.0 }

line : (limit most : ℕ) (asked : Asked) (text : List ℕ) → text_of asked ≡ text → Part most text → most ≤ limit → asked_by text ≡ Some asked → IsReadAs limit asked
line limit most asked text same part fits asks =
    record {
      one = subst (All InLine) (sym same) (all_in_line text part.one);
      short = let len = ap length same in omega (arith, len, part.short, fits);
      asks = ap asked_by same ∙ asks;
    }

pub written_lines : (asked : Asked) → Fits 65536 asked → IsReadAs 140000 asked
written_lines Connect fits = line 140000 7 Connect (codes "connect") refl (record { one = refl; short = omega arith }) (omega arith) refl
written_lines (Bytes client bytes) fits =
    let numbers = both 10 131073 (decimal client) _ (number client fits.0) (space 131072 _ (piece 65536 bytes fits.1)) in
    let all = both 6 131083 (codes "bytes ") _ (record { one = refl; short = omega arith }) numbers in
    line 140000 131089 (Bytes client bytes) (codes "bytes " ++ (decimal client ++ 32 ∷ hex_of bytes)) (glue (codes "bytes ") (decimal client) (hex_of bytes)) all (omega arith)
    (bytes_asked 65536 client bytes fits.0 fits.1)
written_lines (Store place bytes) fits =
    let numbers = both 32 131073 (place_text place) _ (place_part place fits.0) (space 131072 _ (piece 65536 bytes fits.1)) in
    let all = both 6 131105 (codes "store ") _ (record { one = refl; short = omega arith }) numbers in
    line 140000 131111 (Store place bytes) (codes "store " ++ (place_text place ++ 32 ∷ hex_of bytes)) (glue (codes "store ") (place_text place) (hex_of bytes)) all (omega arith)
    (store_asked 65536 place bytes fits.0 fits.1)
written_lines (File place name) fits =
    let numbers = both 32 65 (place_text place) _ (place_part place fits.0) (space 64 _ (name_part name fits.1)) in
    let all = both 5 97 (codes "file ") _ (record { one = refl; short = omega arith }) numbers in
    line 140000 102 (File place name) (codes "file " ++ (place_text place ++ 32 ∷ name)) (glue (codes "file ") (place_text place) name) all (omega arith)
    (file_asked place name fits.0 fits.1)
written_lines (Gone client) fits =
    let all = both 5 10 (codes "gone ") _ (record { one = refl; short = omega arith }) (number client fits) in
    line 140000 15 (Gone client) (codes "gone " ++ decimal client) refl all (omega arith) (ap (λ (o : Option ℕ). option_map (λ c. Gone c) o) (only_decimal client fits))
written_lines (Motion time x y) fits =
    let numbers = both 10 24 (decimal time) _ (number time fits.0) (space 23 _ (both 11 12 (signed_decimal x) _ (coordinate x fits.1) (space 11 _ (coordinate y fits.2)))) in
    let all = both 7 34 (codes "motion ") _ (record { one = refl; short = omega arith }) numbers in
    line 140000 41 (Motion time x y) (codes "motion " ++ (decimal time ++ 32 ∷ (signed_decimal x ++ 32 ∷ signed_decimal y)))
    (glue_three (codes "motion ") (decimal time) (signed_decimal x) (signed_decimal y)) all (omega arith) (motion_asked time x y fits.0 fits.1 fits.2)
written_lines (Button time code pressed) fits =
    let numbers =
    both 10 22 (decimal time) _ (number time fits.0) (space 21 _ (both 10 11 (decimal code) _ (number code fits.1) (space 10 _ (number (digit_of pressed) (digit_fits pressed))))) in
    let all = both 7 32 (codes "button ") _ (record { one = refl; short = omega arith }) numbers in
    line 140000 39 (Button time code pressed) (codes "button " ++ (decimal time ++ 32 ∷ (decimal code ++ 32 ∷ decimal (digit_of pressed))))
    (glue_three (codes "button ") (decimal time) (decimal code) (decimal (digit_of pressed))) all (omega arith) (button_asked time code pressed fits.0 fits.1)
written_lines (Tick time) fits =
    let all = both 5 10 (codes "tick ") _ (record { one = refl; short = omega arith }) (number time fits) in
    line 140000 15 (Tick time) (codes "tick " ++ decimal time) refl all (omega arith) (ap (λ (o : Option ℕ). option_map (λ t. Tick t) o) (only_decimal time fits))
written_lines Nothing fits = line 140000 0 Nothing [] refl (record { one = refl; short = omega arith }) (omega arith) refl
