-- A message is found at the front of a stream.
use Rattle.std.proofs.Common.{◌≡◌, ℕ, ◌+◌, ◌*◌, ◌/◌, ◌%◌, ◌^◌, ◌<◌, ◌≤◌, true, cond, nat_lt, List, [], ◌∷◌, ◌++◌, length, refl, sym, ◌∙◌, ap, arith, length-append}
use Rattle.std.proofs.lemmas.Nat.{from_le_bytes-to_le_bytes_4}
use Rattle.std.proofs.lemmas.List.{append-nil, nil_from_length}
use Rattle.std.proofs.lemmas.Bool.{le-ltb}
use Rattle.std.proofs.lemmas.Bool.Decides.{nat_tests}
use Rattle.std.specs.Int.{w32, to_le_bytes}
use Rattle.wl_wire.specs.declared.header.Split.TheVariants.{Message, More, Bad}
use Rattle.wl_wire.specs.Wire.{Field, Word, Number, Text, Block, Counts, Spells, SpellsAll, padding, word_of, split_of, is_size}
use Rattle.wl_wire.specs.Laws.{IsFoundAgain, HasNoProperPrefix}

pub word_front : (n : ℕ) (more : List ℕ) → n < 2 ^ 32 → word_of 0 (to_le_bytes w32 n ++ more) ≡ n
word_front n more fits = from_le_bytes-to_le_bytes_4 n fits

pub word_next : (m n : ℕ) (more : List ℕ) → n < 2 ^ 32 → word_of 4 (to_le_bytes w32 m ++ to_le_bytes w32 n ++ more) ≡ n
word_next m n more fits = from_le_bytes-to_le_bytes_4 n fits

pub whole_words : (n : ℕ) → (n + padding n) % 4 ≡ 0
whole_words n = omega arith

pub length-Counts : (counted bytes : List ℕ) → Counts counted bytes → length bytes % 4 ≡ 0
length-Counts counted bytes is =
    ap (λ (u : List ℕ). length u % 4) is.2 ∙ omega (arith, length-append counted is.0, is.1, whole_words (length counted))

pub length-Spells : (field : Field) (bytes : List ℕ) → Spells field bytes → length bytes % 4 ≡ 0
length-Spells (Word n) bytes is = ap (λ (u : List ℕ). length u % 4) is
length-Spells (Number z) bytes is = ap (λ (u : List ℕ). length u % 4) is
length-Spells (Text text) bytes is = length-Counts (text ++ 0 ∷ []) bytes is
length-Spells (Block block) bytes is = length-Counts block bytes is

pub length-SpellsAll : (fields : List Field) (bytes : List ℕ) → SpellsAll fields bytes → length bytes % 4 ≡ 0
length-SpellsAll [] bytes is = ap (λ (u : List ℕ). length u % 4) is
length-SpellsAll (field ∷ fields) bytes is =
    let e : length bytes ≡ length is.0 + length is.1 = ap length is.4 ∙ length-append is.0 is.1 in
    omega (arith, e, length-Spells field is.0 is.2, length-SpellsAll fields is.1 is.3)

pub size_allowed : (size : ℕ) → 8 ≤ size → size ≤ 65532 → size % 4 ≡ 0 → is_size size ≡ true
size_allowed size least most whole = grind (arith, nat_tests)

-- what split_of answers where the length and the two words of a stream are these
pub answered : (len first second : ℕ) → 8 ≤ len → is_size (second / 65536) ≡ true → second / 65536 ≤ len
    → cond (nat_lt len 8) More (cond (is_size (second / 65536)) (cond (nat_lt len (second / 65536)) More (Message first (second % 65536) (second / 65536))) Bad)
    ≡ Message first (second % 65536) (second / 65536)
answered len first second enough allowed there =
    rw (le-ltb len 8 enough, allowed, le-ltb len (second / 65536) there) refl

pub found_at : (object opcode : ℕ) (body more : List ℕ) → object < 2 ^ 32 → opcode < 2 ^ 16 → 8 + length body ≤ 65532 → length body % 4 ≡ 0
    → split_of ((to_le_bytes w32 object ++ to_le_bytes w32 (opcode + 65536 * (8 + length body)) ++ body) ++ more) ≡ Message object opcode (8 + length body)
found_at object opcode body more object_fits opcode_fits size_fits whole =
    let word : ℕ = opcode + 65536 * (8 + length body) in
    let stream : List ℕ = (to_le_bytes w32 object ++ to_le_bytes w32 word ++ body) ++ more in
    let first : word_of 0 stream ≡ object = word_front object (to_le_bytes w32 word ++ (body ++ more)) object_fits in
    let second : word_of 4 stream ≡ word = word_next object word (body ++ more) (omega arith) in
    let size : word / 65536 ≡ 8 + length body = omega arith in
    let code : word % 65536 ≡ opcode = omega arith in
    let len : length stream ≡ 8 + length body + length more = omega (arith, length-append body more) in
    let allowed : is_size (word_of 4 stream / 65536) ≡ true = ap (λ (u : ℕ). is_size (u / 65536)) second ∙ ap is_size size ∙ size_allowed (8 + length body) (omega arith) size_fits (omega arith) in
    let fits : word_of 4 stream / 65536 ≤ length stream = omega (arith, ap (λ (u : ℕ). u / 65536) second, size, len) in
    answered (length stream) (word_of 0 stream) (word_of 4 stream) (omega (arith, len)) allowed fits
    ∙ ap (λ (u : ℕ). Message u (word_of 4 stream % 65536) (word_of 4 stream / 65536)) first
    ∙ ap (λ (u : ℕ). Message object (u % 65536) (u / 65536)) second
    ∙ ap (λ (u : ℕ). Message object u (word / 65536)) code
    ∙ ap (λ (u : ℕ). Message object opcode u) size

pub found : IsFoundAgain
found object opcode fields bytes more m =
    let len : length bytes ≡ 8 + length m.body = ap length m.spelling ∙ omega arith in
    ap (λ (u : List ℕ). split_of (u ++ more)) m.spelling
    ∙ found_at object opcode m.body more m.object_fits m.opcode_fits m.size_fits (length-SpellsAll fields m.body m.arguments)
    ∙ ap (λ (u : ℕ). Message object opcode u) (sym len)

pub no_proper_prefix : HasNoProperPrefix
no_proper_prefix object opcode object' opcode' fields fields' bytes more a b =
    let once : split_of (bytes ++ more) ≡ Message object opcode (length bytes) = found object opcode fields bytes more a in
    let again : split_of ((bytes ++ more) ++ []) ≡ Message object' opcode' (length (bytes ++ more)) = found object' opcode' fields' (bytes ++ more) [] b in
    let same : Message object opcode (length bytes) ≡ Message object' opcode' (length (bytes ++ more)) = sym once ∙ ap split_of (sym (append-nil (bytes ++ more))) ∙ again in
    let e : length bytes ≡ length (bytes ++ more) = cc in
    nil_from_length more (omega (arith, e, length-append bytes more))
