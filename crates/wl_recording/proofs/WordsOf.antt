-- Words and numbers of a line that was written.
use Rattle.std.proofs.Common.{◌≡◌, ◌<◌, ◌≤◌, ◌+◌, ◌-◌, ◌*◌, ◌^◌, ◌/◌, ◌%◌, ℕ, ℤ, pos, negsuc, suc, Bool, true, false, not, List, [], ◌∷◌, ◌++◌, Some, length, take, drop, refl, ap, ◌∙◌, arith, length-append}
use Rattle.std.specs.Prelude.{◌==◌, ◌&&◌, nat_le, nat_lt}
use Rattle.std.specs.List.{list_all, prefix_len, take_while}
use Rattle.std.specs.Fmt.{decimal, signed_decimal}
use Rattle.std.proofs.lemmas.Bool.{and_from, and_parts, le-leb, lt-ltb, leb-true, ne_eqb}
use Rattle.std.proofs.lemmas.Fmt.{decimal_by_steps}
use Rattle.std.proofs.lemmas.List.Folds.{list_all-append}
use Rattle.wl_recording.specs.Line.{after_spaces, after_word, first_word, has_minus, is_digit, number_of, signed_of, value_of}
use Rattle.wl_recording.specs.Written.{IsCoordinate, IsNumber}
use Rattle.wl_recording.proofs.Words.{value_of-rest}

-- a byte of a word
abbrev pub in_word : ℕ → Bool
in_word b = not (b == 32)

-- some bytes without spaces
pub record IsWord (word : List ℕ) : Type 0 where
  pub some : 0 < length word
  pub plain : list_all in_word word ≡ true

-- Bytes that pass one test pass another.
pub list_all-implies : (p q : ℕ → Bool) → ((b : ℕ) → p b ≡ true → q b ≡ true) → (xs : List ℕ) → list_all p xs ≡ true → list_all q xs ≡ true
list_all-implies p q implies [] all = refl
list_all-implies p q implies (b ∷ xs) all =
    let parts = and_parts (p b) (list_all p xs) all in
    and_from (q b) (list_all q xs) (implies b parts.0) (list_all-implies p q implies xs parts.1)

word_bytes : (word rest : List ℕ) → list_all in_word word ≡ true → prefix_len in_word (word ++ 32 ∷ rest) ≡ length word
word_bytes [] rest all = refl
word_bytes (b ∷ word) rest all =
    let parts = and_parts (in_word b) (list_all in_word word) all in
    let tail : prefix_len in_word (word ++ 32 ∷ rest) ≡ length word = word_bytes word rest parts.1 in
    rw parts.0 (omega (arith, tail))

all_bytes : (word : List ℕ) → list_all in_word word ≡ true → prefix_len in_word word ≡ length word
all_bytes [] all = refl
all_bytes (b ∷ word) all =
    let parts = and_parts (in_word b) (list_all in_word word) all in
    let tail : prefix_len in_word word ≡ length word = all_bytes word parts.1 in
    rw parts.0 (omega (arith, tail))

not_true : (b : Bool) → not b ≡ true → b ≡ false
not_true true e = absurd (cc)
not_true false e = refl

take_all : (word : List ℕ) → take (length word) word ≡ word
take_all [] = refl
take_all (b ∷ word) = ap (λ (t : List ℕ). b ∷ t) (take_all word)

take_front : (word rest : List ℕ) → take (length word) (word ++ rest) ≡ word
take_front [] rest = refl
take_front (b ∷ word) rest = ap (λ (t : List ℕ). b ∷ t) (take_front word rest)

drop_front : (word rest : List ℕ) → drop (length word) (word ++ rest) ≡ rest
drop_front [] rest = refl
drop_front (b ∷ word) rest = drop_front word rest

drop_all : (word : List ℕ) → drop (length word) word ≡ []
drop_all [] = refl
drop_all (b ∷ word) = drop_all word

behind_space : (word rest : List ℕ) → IsWord word → after_spaces (32 ∷ (word ++ rest)) ≡ word ++ rest
behind_space [] rest is = absurd (omega (arith, is.some))
behind_space (b ∷ word) rest is =
    let parts = and_parts (in_word b) (list_all in_word word) is.plain in
    let isnt : (b == 32) ≡ false = not_true (b == 32) parts.0 in
    rw isnt refl

-- a word with a space before it and one behind
pub first_of : (word rest : List ℕ) → IsWord word → first_word (32 ∷ (word ++ 32 ∷ rest)) ≡ word
first_of word rest is =
    let text = behind_space word (32 ∷ rest) is in
    ap (take_while in_word) text ∙ (ap (λ (n : ℕ). take n (word ++ 32 ∷ rest)) (word_bytes word rest is.plain) ∙ take_front word (32 ∷ rest))

pub behind : (word rest : List ℕ) → IsWord word → after_word (32 ∷ (word ++ 32 ∷ rest)) ≡ 32 ∷ rest
behind word rest is =
    let text = behind_space word (32 ∷ rest) is in
    ap (λ (t : List ℕ). drop (prefix_len in_word t) t) text
    ∙ (ap (λ (n : ℕ). drop n (word ++ 32 ∷ rest)) (word_bytes word rest is.plain) ∙ drop_front word (32 ∷ rest))

last_space : (word : List ℕ) → IsWord word → after_spaces (32 ∷ word) ≡ word
last_space [] is = absurd (omega (arith, is.some))
last_space (b ∷ word) is =
    let parts = and_parts (in_word b) (list_all in_word word) is.plain in
    let isnt : (b == 32) ≡ false = not_true (b == 32) parts.0 in
    rw isnt refl

-- the last word of a text
pub first_last : (word : List ℕ) → IsWord word → first_word (32 ∷ word) ≡ word
first_last word is =
    ap (take_while in_word) (last_space word is) ∙ (ap (λ (n : ℕ). take n word) (all_bytes word is.plain) ∙ take_all word)

pub behind_last : (word : List ℕ) → IsWord word → after_word (32 ∷ word) ≡ []
behind_last word is =
    ap (λ (t : List ℕ). drop (prefix_len in_word t) t) (last_space word is) ∙ (ap (λ (n : ℕ). drop n word) (all_bytes word is.plain) ∙ drop_all word)

-- digits that spell a number
pub record Spells (n : ℕ) (word : List ℕ) : Type 0 where
  pub some : 0 < length word
  pub digits : list_all is_digit word ≡ true
  pub value : value_of word ≡ n

digit_is : (d : ℕ) → d < 10 → is_digit (48 + d) ≡ true
digit_is d small = and_from (nat_le 48 (48 + d)) (nat_le (48 + d) 57) (le-leb 48 (48 + d) (omega arith)) (le-leb (48 + d) 57 (omega arith))

one_digit : (n : ℕ) → n < 10 → Spells n ((48 + n) ∷ [])
one_digit n small = record { some = omega arith; digits = and_from (is_digit (48 + n)) true (digit_is n small) refl; value = omega arith }

more_digits : (n : ℕ) (ds : List ℕ) → 10 ≤ n → Spells (n / 10) ds → Spells n (ds ++ ((48 + n % 10) ∷ []))
more_digits n ds large is =
    let low : n % 10 < 10 = omega arith in
    let last = and_from (is_digit (48 + n % 10)) true (digit_is (n % 10) low) refl in
    record {
      some = let len = length-append ds ((48 + n % 10) ∷ []) in omega (arith, len, is.some);
      digits = list_all-append is_digit ds ((48 + n % 10) ∷ []) ∙ and_from (list_all is_digit ds) (is_digit (48 + n % 10) && true) is.digits last;
      value = value_of-rest 0 ds ((48 + n % 10) ∷ []) ∙ (ap (λ (v : ℕ). 10 * v + (48 + n % 10 - 48)) is.value ∙ omega arith);
    }

pub decimal_spells : (n : ℕ) → IsNumber n → Spells n (decimal n)
decimal_spells n small = decimal_by_steps Spells one_digit more_digits n (omega arith)

digit_in_word : (b : ℕ) → is_digit b ≡ true → in_word b ≡ true
digit_in_word b is =
    let parts = and_parts (nat_le 48 b) (nat_le b 57) is in
    let low : 48 ≤ b = leb-true 48 b parts.0 in
    ap not (ne_eqb b 32 (λ e. omega arith))

pub decimal_word : (n : ℕ) → IsNumber n → IsWord (decimal n)
decimal_word n small =
    let is = decimal_spells n small in
    record { some = is.some; plain = list_all-implies is_digit in_word digit_in_word (decimal n) is.digits }

pub number_is : (n : ℕ) → IsNumber n → number_of (decimal n) ≡ Some n
number_is n small =
    let is = decimal_spells n small in
    let some : nat_lt 0 (length (decimal n)) ≡ true = lt-ltb 0 (length (decimal n)) is.some in
    let fits : nat_lt n (2 ^ 32) ≡ true = lt-ltb n (2 ^ 32) small in
    rw (some, is.digits, is.value, fits) refl

minus_of : (digits : List ℕ) → list_all is_digit digits ≡ true → has_minus digits ≡ false
minus_of [] all = refl
minus_of (b ∷ digits) all =
    let parts = and_parts (is_digit b) (list_all is_digit digits) all in
    let low : 48 ≤ b = leb-true 48 b (and_parts (nat_le 48 b) (nat_le b 57) parts.0).0 in
    ne_eqb b 45 (λ e. omega arith)

pub signed_is : (z : ℤ) → IsCoordinate z → signed_of (signed_decimal z) ≡ Some z
signed_is (pos n) small =
    let number : IsNumber n = omega arith in
    let is = decimal_spells n number in
    let fits : nat_lt n (2 ^ 31) ≡ true = lt-ltb n (2 ^ 31) small in
    rw (minus_of (decimal n) is.digits, number_is n number, fits) refl
signed_is (negsuc n) small =
    let number : IsNumber (suc n) = omega arith in
    let fits : nat_le (suc n) (2 ^ 31) ≡ true = le-leb (suc n) (2 ^ 31) (omega arith) in
    rw (number_is (suc n) number, fits) refl

pub signed_word : (z : ℤ) → IsCoordinate z → IsWord (signed_decimal z)
signed_word (pos n) small = decimal_word n (omega arith)
signed_word (negsuc n) small =
    let is = decimal_word (suc n) (omega arith) in
    record { some = omega arith; plain = is.plain }
