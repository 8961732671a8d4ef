-- Arguments are read exactly as they are spelled.
use Rattle.std.proofs.Common.{◌≡◌, ℕ, zero, suc, ℤ, FitsSigned, lit<, subst, ◌+◌, ◌-◌, ◌^◌, ◌<◌, ◌≤◌, Bool, true, false, cond, nat_lt, ◌==◌, List, [], ◌∷◌, ◌++◌, length, take, drop, get_or, map}
use Rattle.std.proofs.Common.{Result, Ok, Err, refl, sym, ◌∙◌, ap, arith, append_assoc, length-append}
use Rattle.std.proofs.lemmas.Nat.{from_le_bytes-to_le_bytes_4, le_bytes_4}
use Rattle.std.proofs.lemmas.Int.{ints, of_z-to_z, to_z-of_z}
use Rattle.std.proofs.Math.Seq.{take-append_seam, drop-append_seam, get_or-append_seam}
use Rattle.std.proofs.lemmas.List.{take-append-drop, length-take, length-take-le, get_or-drop, drop-drop}
use Rattle.std.proofs.lemmas.Bool.{ltb-false, le-ltb, eqb-true, eqb-false, eq-eqb, ne_eqb}
use Rattle.std.specs.List.{AllByRecursion}
use Rattle.std.specs.Int.{w32, to_le_bytes, cast_signed, cast_unsigned}
use Rattle.wl_wire.specs.declared.error.ArgError.{ArgError}
use Rattle.wl_wire.specs.declared.error.ArgError.TheVariants.{Short, NoNul, Null}
use Rattle.wl_wire.specs.Wire.{Field, Word, Number, Text, Block, Kind, AWord, ANumber, AText, ABlock, IsInRange, kind_of, Counts, Spells, SpellsAll, Takes, padding, whole, text_at, block_at, word_of}
use Rattle.wl_wire.specs.Wire.{field_at, fields_at, fields_behind, with_front, none_left, field_bytes, fields_bytes, counted_bytes}
use Rattle.wl_wire.specs.Laws.{AreBytes, IsReadAsSpelled, IsSpelledAsWritten}
use Rattle.wl_wire.proofs.Counted.{block_front, text_front}

-- ---- what is written is a spelling

pub length-padding : (n : ℕ) → length {A = ℕ} (take (padding n) (0 ∷ 0 ∷ 0 ∷ [])) ≡ padding n
length-padding n = length-take-le {A = ℕ} (padding n) (0 ∷ 0 ∷ 0 ∷ []) (omega arith)

pub Counts-counted_bytes : (counted : List ℕ) → Counts counted (counted_bytes counted)
Counts-counted_bytes counted = (take (padding (length counted)) (0 ∷ 0 ∷ 0 ∷ []), length-padding (length counted), refl)

pub Spells-field_bytes : (field : Field) → Spells field (field_bytes field)
Spells-field_bytes (Word n) = refl
Spells-field_bytes (Number z) = refl
Spells-field_bytes (Text text) = Counts-counted_bytes (text ++ 0 ∷ [])
Spells-field_bytes (Block block) = Counts-counted_bytes block

pub SpellsAll-fields_bytes : (fields : List Field) → SpellsAll fields (fields_bytes fields)
SpellsAll-fields_bytes [] = refl
SpellsAll-fields_bytes (field ∷ fields) = (field_bytes field, fields_bytes fields, Spells-field_bytes field, SpellsAll-fields_bytes fields, refl)

pub spelled_as_written : IsSpelledAsWritten
spelled_as_written object opcode fields object_fits opcode_fits size_fits = record {
  body = fields_bytes fields;
  object_fits = object_fits;
  opcode_fits = opcode_fits;
  size_fits = size_fits;
  arguments = SpellsAll-fields_bytes fields;
  spelling = refl;
}

-- ---- what is read is spelled

AreBytes-take : (n : ℕ) (bytes : List ℕ) → AreBytes bytes → AreBytes (take n bytes)
AreBytes-take zero bytes are i = lit< tt
AreBytes-take (suc n) [] are i = lit< tt
AreBytes-take (suc n) (b ∷ bytes) are zero = are 0
AreBytes-take (suc n) (b ∷ bytes) are (suc i) = AreBytes-take n bytes (λ k. are (suc k)) i

AreBytes-drop : (n : ℕ) (bytes : List ℕ) → AreBytes bytes → AreBytes (drop n bytes)
AreBytes-drop n bytes are i = rw get_or-drop (are (n + i))

-- the fault was not met
guard_ok : {X : Type 0} (b : Bool) (fault : ArgError) (r : Result X ArgError) (y : X) → cond b (Err fault) r ≡ Ok y → (b ≡ false) × (r ≡ Ok y)
guard_ok true fault r y e = absurd (cc)
guard_ok false fault r y e = (refl, e)

guard_err : {X : Type 0} (b : Bool) (fault : ArgError) (r : Result X ArgError) (y : X) → cond b r (Err fault) ≡ Ok y → (b ≡ true) × (r ≡ Ok y)
guard_err true fault r y e = (refl, e)
guard_err false fault r y e = absurd (cc)

-- what a successful reading of a field says
abbrev IsRead : Kind → List ℕ → Field × List ℕ → Type 0
IsRead kind bytes x = (kind_of x.0 ≡ kind) × IsInRange x.0 × Takes bytes x.0 x.1 × AreBytes x.1

abbrev read : Field × List ℕ → Result (Field × List ℕ) ArgError
read x = Ok x

carried : (kind : Kind) (bytes : List ℕ) (x y : Field × List ℕ) → IsRead kind bytes x → read x ≡ read y → IsRead kind bytes y
carried kind bytes x y is e = let same : x ≡ y = cc in subst (λ (u : Field × List ℕ). IsRead kind bytes u) same is

word_fits : (bytes : List ℕ) → AreBytes bytes → word_of 0 bytes < 2 ^ 32
word_fits bytes are =
    let four : AreBytes (take 4 bytes) = AreBytes-take 4 bytes are in
    omega (arith, four 0, four 1, four 2, four 3)

word_spelled : (bytes : List ℕ) → AreBytes bytes → 4 ≤ length bytes → to_le_bytes w32 (word_of 0 bytes) ≡ take 4 bytes
word_spelled bytes are enough = le_bytes_4 (take 4 bytes) (word_of 0 bytes) (length-take-le 4 bytes enough) (AreBytes-take 4 bytes are) refl

word_read : (bytes : List ℕ) → AreBytes bytes → 4 ≤ length bytes → IsRead AWord bytes (Word (word_of 0 bytes), drop 4 bytes)
word_read bytes are enough =
    (refl, word_fits bytes are, (take 4 bytes, sym (word_spelled bytes are enough), sym (take-append-drop 4 bytes)), AreBytes-drop 4 bytes are)

number_read : (bytes : List ℕ) → AreBytes bytes → 4 ≤ length bytes → IsRead ANumber bytes (Number (cast_signed w32 (word_of 0 bytes)), drop 4 bytes)
number_read bytes are enough =
    let fits : word_of 0 bytes < 2 ^ 32 = word_fits bytes are in
    let back : cast_unsigned w32 (cast_signed w32 (word_of 0 bytes)) ≡ word_of 0 bytes = of_z-to_z w32 (word_of 0 bytes) fits in (
      refl,
      signed_fits (word_of 0 bytes) fits,
      (take 4 bytes, sym (word_spelled bytes are enough) ∙ ap (to_le_bytes w32) (sym back), sym (take-append-drop 4 bytes)),
      AreBytes-drop 4 bytes are,
    )
  where
    signed_fits : (n : ℕ) → n < 2 ^ 32 → FitsSigned w32 (cast_signed w32 n)
    signed_fits n fits = omega (arith, ints)

length_of_text : (bytes : List ℕ) (count : ℕ) → 0 < count → count < 2 ^ 32 → length (take (count - 1) (drop 4 bytes)) + 1 < 2 ^ 32
length_of_text bytes count some fits = omega (arith, length-take (count - 1) (drop 4 bytes))

text_read : (bytes : List ℕ) (count : ℕ) (y : Field × List ℕ) → AreBytes bytes → count < 2 ^ 32 → to_le_bytes w32 count ≡ take 4 bytes → text_at count bytes ≡ Ok y → IsRead AText bytes y
text_read bytes count y are fits word is =
    let a = guard_ok (count == 0) Null _ y is in
    let b = guard_ok (nat_lt (length bytes) (whole count)) Short _ y a.1 in
    let c = guard_err (get_or bytes (3 + count) 0 == 0) NoNul _ y b.1 in
    let some : 0 < count = omega (arith, eqb-false count 0 a.0) in
    let enough : whole count ≤ length bytes = ltb-false (length bytes) (whole count) b.0 in
    let nul : get_or bytes (3 + count) 0 ≡ 0 = eqb-true (get_or bytes (3 + count) 0) 0 c.0 in
    carried AText bytes _ y (refl, length_of_text bytes count some fits, text_front bytes count word some enough nul, AreBytes-drop (whole count) bytes are) c.1

block_read : (bytes : List ℕ) (count : ℕ) (y : Field × List ℕ) → AreBytes bytes → count < 2 ^ 32 → to_le_bytes w32 count ≡ take 4 bytes → block_at count bytes ≡ Ok y → IsRead ABlock bytes y
block_read bytes count y are fits word is =
    let b = guard_ok (nat_lt (length bytes) (whole count)) Short _ y is in
    let enough : whole count ≤ length bytes = ltb-false (length bytes) (whole count) b.0 in
    carried ABlock bytes _ y (refl, omega (arith, length-take count (drop 4 bytes)), block_front bytes count word enough, AreBytes-drop (whole count) bytes are) b.1

field_read : (kind : Kind) (bytes : List ℕ) (y : Field × List ℕ) → AreBytes bytes → field_at kind bytes ≡ Ok y → IsRead kind bytes y
field_read AWord bytes y are is =
    let b = guard_ok (nat_lt (length bytes) 4) Short _ y is in
    carried AWord bytes _ y (word_read bytes are (ltb-false (length bytes) 4 b.0)) b.1
field_read ANumber bytes y are is =
    let b = guard_ok (nat_lt (length bytes) 4) Short _ y is in
    carried ANumber bytes _ y (number_read bytes are (ltb-false (length bytes) 4 b.0)) b.1
field_read AText bytes y are is =
    let b = guard_ok (nat_lt (length bytes) 4) Short _ y is in
    text_read bytes (word_of 0 bytes) y are (word_fits bytes are) (word_spelled bytes are (ltb-false (length bytes) 4 b.0)) b.1
field_read ABlock bytes y are is =
    let b = guard_ok (nat_lt (length bytes) 4) Short _ y is in
    block_read bytes (word_of 0 bytes) y are (word_fits bytes are) (word_spelled bytes are (ltb-false (length bytes) 4 b.0)) b.1

-- ---- what is spelled is read

word_again : (s : List ℕ) (n : ℕ) (rest : List ℕ) → 4 ≤ length s → word_of 0 s ≡ n → drop 4 s ≡ rest → field_at AWord s ≡ Ok (Word n, rest)
word_again s n rest enough first behind =
    rw (le-ltb (length s) 4 enough) (ap (λ (u : ℕ). Ok (Word u, drop 4 s)) first ∙ ap (λ (u : List ℕ). Ok (Word n, u)) behind)

number_again : (s : List ℕ) (z : ℤ) (rest : List ℕ) → 4 ≤ length s → cast_signed w32 (word_of 0 s) ≡ z → drop 4 s ≡ rest → field_at ANumber s ≡ Ok (Number z, rest)
number_again s z rest enough first behind =
    rw (le-ltb (length s) 4 enough) (ap (λ (u : ℤ). Ok (Number u, drop 4 s)) first ∙ ap (λ (u : List ℕ). Ok (Number z, u)) behind)

text_again : (s text : List ℕ) (n : ℕ) (rest : List ℕ) → 0 < n → whole n ≤ length s → word_of 0 s ≡ n → get_or s (3 + n) 0 ≡ 0 → take (n - 1) (drop 4 s) ≡ text → drop (whole n) s ≡ rest
    → field_at AText s ≡ Ok (Text text, rest)
text_again s text n rest some enough first nul counted behind =
    rw (le-ltb (length s) 4 (omega arith))
    (ap (λ (u : ℕ). text_at u s) first
    ∙ rw (ne_eqb n 0 (λ e. omega arith), le-ltb (length s) (whole n) enough, eq-eqb (get_or s (3 + n) 0) 0 nul)
    (ap (λ (u : List ℕ). Ok (Text u, drop (whole n) s)) counted ∙ ap (λ (u : List ℕ). Ok (Text text, u)) behind))

block_again : (s block : List ℕ) (n : ℕ) (rest : List ℕ) → whole n ≤ length s → word_of 0 s ≡ n → take n (drop 4 s) ≡ block → drop (whole n) s ≡ rest → field_at ABlock s ≡ Ok (Block block, rest)
block_again s block n rest enough first counted behind =
    rw (le-ltb (length s) 4 (omega arith))
    (ap (λ (u : ℕ). block_at u s) first
    ∙ rw (le-ltb (length s) (whole n) enough)
    (ap (λ (u : List ℕ). Ok (Block u, drop (whole n) s)) counted ∙ ap (λ (u : List ℕ). Ok (Block block, u)) behind))

-- what lies behind a length, the bytes that it counts and their padding
behind_whole : (n : ℕ) (counted fill rest : List ℕ) → length counted ≡ n → length fill ≡ padding n → drop (whole n) (to_le_bytes w32 n ++ counted ++ fill ++ rest) ≡ rest
behind_whole n counted fill rest n-is fill-is =
    let s : List ℕ = to_le_bytes w32 n ++ counted ++ fill ++ rest in
    let len : length (counted ++ fill) ≡ n + padding n = length-append counted fill ∙ omega arith in
    ap (λ (u : ℕ). drop u s) (omega arith)
    ∙ sym (drop-drop (n + padding n) 4 s)
    ∙ ap (λ (u : ℕ). drop u (counted ++ fill ++ rest)) (sym len)
    ∙ drop-append_seam (counted ++ fill) rest

long_enough : (n : ℕ) (counted fill rest : List ℕ) → length counted ≡ n → length fill ≡ padding n → whole n ≤ length (to_le_bytes w32 n ++ counted ++ fill ++ rest)
long_enough n counted fill rest n-is fill-is = omega (arith, length-append (counted ++ fill) rest, length-append counted fill)

field_again : (field : Field) (here rest : List ℕ) → IsInRange field → Spells field here → field_at (kind_of field) (here ++ rest) ≡ Ok (field, rest)
field_again (Word n) here rest fits is =
    ap (λ (u : List ℕ). field_at AWord (u ++ rest)) is
    ∙ word_again (to_le_bytes w32 n ++ rest) n rest (omega arith) (from_le_bytes-to_le_bytes_4 n fits) refl
field_again (Number z) here rest fits is =
    ap (λ (u : List ℕ). field_at ANumber (u ++ rest)) is
    ∙ number_again (to_le_bytes w32 (cast_unsigned w32 z) ++ rest) z rest (omega arith)
    (ap (cast_signed w32) (from_le_bytes-to_le_bytes_4 (cast_unsigned w32 z) (omega (arith, ints))) ∙ to_z-of_z w32 z fits) refl
field_again (Text text) here rest fits is =
    let n : ℕ = length (text ++ 0 ∷ []) in
    let n-is : n ≡ length text + 1 = length-append text (0 ∷ []) in
    let s : List ℕ = to_le_bytes w32 n ++ (text ++ 0 ∷ []) ++ is.0 ++ rest in
    let t : List ℕ = (text ++ 0 ∷ []) ++ is.0 ++ rest in
    let grouped : t ≡ text ++ 0 ∷ (is.0 ++ rest) = append_assoc (text ++ 0 ∷ []) is.0 rest ∙ append_assoc text (0 ∷ []) (is.0 ++ rest) in
    let last : n - 1 ≡ length text = omega (arith, n-is) in
    let place : 3 + n ≡ 4 + (n - 1) = omega (arith, n-is) in
    let ends : get_or s (3 + n) 0 ≡ 0 =
    ap (λ (u : ℕ). get_or s u 0) place
    ∙ sym (get_or-drop 4 s (n - 1) 0)
    ∙ ap (λ (u : ℕ). get_or t u 0) last
    ∙ ap (λ (u : List ℕ). get_or u (length text) 0) grouped
    ∙ get_or-append_seam text 0 (is.0 ++ rest) 0 in
    let counted : take (n - 1) (drop 4 s) ≡ text =
    ap (λ (u : ℕ). take u t) last ∙ ap (take (length text)) grouped ∙ take-append_seam text (0 ∷ (is.0 ++ rest)) in
    ap (λ (u : List ℕ). field_at AText (u ++ rest)) is.2
    ∙ text_again s text n rest (omega arith) (long_enough n (text ++ 0 ∷ []) is.0 rest refl is.1) (from_le_bytes-to_le_bytes_4 n (omega arith)) ends counted
    (behind_whole n (text ++ 0 ∷ []) is.0 rest refl is.1)
field_again (Block block) here rest fits is =
    let n : ℕ = length block in
    let s : List ℕ = to_le_bytes w32 n ++ block ++ is.0 ++ rest in
    let counted : take n (drop 4 s) ≡ block = ap (take n) (append_assoc block is.0 rest) ∙ take-append_seam block (is.0 ++ rest) in
    ap (λ (u : List ℕ). field_at ABlock (u ++ rest)) is.2
    ∙ block_again s block n rest (long_enough n block is.0 rest refl is.1) (from_le_bytes-to_le_bytes_4 n fits) counted (behind_whole n block is.0 rest refl is.1)

-- ---- all of them

behind_ok : (r : Result (Field × List ℕ) ArgError) (next : List ℕ → Result (List Field) ArgError) (fields : List Field) → fields_behind r next ≡ Ok fields → (x : Field × List ℕ) × (r ≡ Ok x)
    × (with_front x.0 (next x.1) ≡ Ok fields)
behind_ok (Ok x) next fields e = (x, refl, e)
behind_ok (Err fault) next fields e = absurd (cc)

front_ok : (field : Field) (r : Result (List Field) ArgError) (fields : List Field) → with_front field r ≡ Ok fields → (more : List Field) × (r ≡ Ok more) × (field ∷ more ≡ fields)
front_ok field (Ok more) fields e = (more, refl, cc)
front_ok field (Err fault) fields e = absurd (cc)

abbrev AreRead : List Kind → List ℕ → List Field → Type 0
AreRead kinds bytes fields = (map kind_of fields ≡ kinds) × AllByRecursion IsInRange fields × SpellsAll fields bytes

all_read : (kinds : List Kind) (bytes : List ℕ) (fields : List Field) → AreBytes bytes → fields_at kinds bytes ≡ Ok fields → AreRead kinds bytes fields
all_read [] [] fields are is = let e : [] ≡ fields = cc in subst (λ (u : List Field). AreRead [] [] u) e (refl, tt, refl)
all_read [] (b ∷ bytes) fields are is = absurd (cc)
all_read (kind ∷ kinds) bytes fields are is =
    let a = behind_ok (field_at kind bytes) (λ more. fields_at kinds more) fields is in
    let b = front_ok a.0.0 (fields_at kinds a.0.1) fields a.2 in
    let one = field_read kind bytes a.0 are a.1 in
    let more = all_read kinds a.0.1 b.0 one.3 b.1 in
    subst (λ (u : List Field). AreRead (kind ∷ kinds) bytes u) b.2 (
      ap (λ (u : Kind). u ∷ map kind_of b.0) one.0 ∙ ap (λ (u : List Kind). kind ∷ u) more.0,
      (one.1, more.1),
      (one.2.0, a.0.1, one.2.1, more.2, one.2.2),
    )

all_again : (fields : List Field) (bytes : List ℕ) → AllByRecursion IsInRange fields → SpellsAll fields bytes → fields_at (map kind_of fields) bytes ≡ Ok fields
all_again [] bytes all is = ap none_left is
all_again (field ∷ fields) bytes all is =
    ap (λ (u : List ℕ). fields_at (kind_of field ∷ map kind_of fields) u) is.4
    ∙ ap (λ (u : Result (Field × List ℕ) ArgError). fields_behind u (λ more. fields_at (map kind_of fields) more)) (field_again field is.0 is.1 all.0 is.2)
    ∙ ap (with_front field) (all_again fields is.1 all.1 is.3)

pub read_as_spelled : IsReadAsSpelled
read_as_spelled kinds fields bytes are = (
  λ is. all_read kinds bytes fields are is,
  λ is. ap (λ (u : List Kind). fields_at u bytes) (sym is.0) ∙ all_again fields bytes is.1 is.2,
)
