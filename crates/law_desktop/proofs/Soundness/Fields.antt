-- The object that a message makes is neither a wl_surface nor a wl_callback before.
use Rattle.std.proofs.Common.{◌≡◌, ℕ, List, ◌∷◌, Bool, true, false, Result, refl, ap, sym, ◌∙◌, map, length, []}
use Rattle.std.specs.Prelude.{Ok, Err, ◌==◌, if◌then◌else◌, nat_lt, ◌+◌, ◌-◌, drop, slice_index, take}
use Rattle.wl_wire.specs.declared.error.ArgError.{ArgError}
use Rattle.wl_wire.specs.declared.error.ArgError.TheVariants.{Null, Short, NoNul}
use Rattle.wl_wire.specs.Wire.{Field, Text, Block, Kind, AWord, ANumber, AText, ABlock, block_at, field_at, fields_at, fields_behind, kind_of, none_left, text_at, whole, with_front, word_of}

-- ---- what is read is of the kinds that are asked for

if-kind : (b : Bool) (fault : ArgError) (read : Result (Field × List ℕ) ArgError) (kind : Kind) (x : Field × List ℕ) → ((y : Field × List ℕ) → read ≡ Ok y → kind_of y.0 ≡ kind)
    → (if b then Err fault else read) ≡ Ok x → kind_of x.0 ≡ kind
if-kind true fault read kind x rest e = absurd (cc)
if-kind false fault read kind x rest e = rest x e

same-read : (x y : Field × List ℕ) → (let r : Result (Field × List ℕ) ArgError = Ok x in r) ≡ Ok y → x ≡ y
same-read x y e = cc

read-kind : (x : Field × List ℕ) (kind : Kind) → kind_of x.0 ≡ kind → (y : Field × List ℕ) → (let r : Result (Field × List ℕ) ArgError = Ok x in r) ≡ Ok y → kind_of y.0 ≡ kind
read-kind x kind is y e = ap (λ (z : Field × List ℕ). kind_of z.0) (sym (same-read x y e)) ∙ is

text-kind : (count : ℕ) (bytes : List ℕ) (x : Field × List ℕ) → text_at count bytes ≡ Ok x → kind_of x.0 ≡ AText
text-kind count bytes x e = at (count == 0) (nat_lt (length bytes) (whole count)) (slice_index bytes (3 + count) == 0) e
  where
    at : (a b c : Bool) → (if a then Err Null else (if b then Err Short else (if c then Ok (Text (take (count - 1) (drop 4 bytes)), drop (whole count) bytes) else Err NoNul))) ≡ Ok x
        → kind_of x.0 ≡ AText
    at true b c e = absurd (cc)
    at false true c e = absurd (cc)
    at false false false e = absurd (cc)
    at false false true e = read-kind (Text (take (count - 1) (drop 4 bytes)), drop (whole count) bytes) AText refl x e

block-kind : (count : ℕ) (bytes : List ℕ) (x : Field × List ℕ) → block_at count bytes ≡ Ok x → kind_of x.0 ≡ ABlock
block-kind count bytes x e = at (nat_lt (length bytes) (whole count)) e
  where
    at : (b : Bool) → (if b then Err Short else Ok (Block (take count (drop 4 bytes)), drop (whole count) bytes)) ≡ Ok x → kind_of x.0 ≡ ABlock
    at true e = absurd (cc)
    at false e = read-kind (Block (take count (drop 4 bytes)), drop (whole count) bytes) ABlock refl x e

field-kind : (kind : Kind) (bytes : List ℕ) (x : Field × List ℕ) → field_at kind bytes ≡ Ok x → kind_of x.0 ≡ kind
field-kind AWord bytes x e = if-kind _ _ _ AWord x (read-kind _ AWord refl) e
field-kind ANumber bytes x e = if-kind _ _ _ ANumber x (read-kind _ ANumber refl) e
field-kind AText bytes x e = if-kind (nat_lt (length bytes) 4) Short (text_at (word_of 0 bytes) bytes) AText x (λ y f. text-kind (word_of 0 bytes) bytes y f) e
field-kind ABlock bytes x e = if-kind (nat_lt (length bytes) 4) Short (block_at (word_of 0 bytes) bytes) ABlock x (λ y f. block-kind (word_of 0 bytes) bytes y f) e

pub fields-kinds : (kinds : List Kind) (bytes : List ℕ) (fields : List Field) → fields_at kinds bytes ≡ Ok fields → map kind_of fields ≡ kinds
fields-kinds [] bytes fields e = at bytes e
  where
    at : (bytes : List ℕ) → none_left bytes ≡ Ok fields → map kind_of fields ≡ []
    at [] e = let same : [] ≡ fields = cc in ap (map kind_of) (sym same)
    at (b ∷ bytes) e = absurd (cc)
fields-kinds (kind ∷ kinds) bytes fields e = at (field_at kind bytes) refl e (λ more rest r. fields-kinds kinds more rest r)
  where
    front : (x : Field × List ℕ) (more : Result (List Field) ArgError) → fields_at kinds x.1 ≡ more → kind_of x.0 ≡ kind → with_front x.0 more ≡ Ok fields
        → ((rest : List Field) → fields_at kinds x.1 ≡ Ok rest → map kind_of rest ≡ kinds) → map kind_of fields ≡ kind ∷ kinds
    front x (Ok rest) is first e later =
        let same : x.0 ∷ rest ≡ fields = cc in
        ap (map kind_of) (sym same) ∙ ap (λ k. k ∷ map kind_of rest) first ∙ ap (λ ks. kind ∷ ks) (later rest is)
    front x (Err fault) is first e later = absurd (cc)

    at : (o : Result (Field × List ℕ) ArgError) → field_at kind bytes ≡ o → fields_behind o (λ more. fields_at kinds more) ≡ Ok fields
        → ((more : List ℕ) (rest : List Field) → fields_at kinds more ≡ Ok rest → map kind_of rest ≡ kinds) → map kind_of fields ≡ kind ∷ kinds
    at (Ok x) is e later = front x (fields_at kinds x.1) refl (field-kind kind bytes x is) e (λ rest r. later x.1 rest r)
    at (Err fault) is e later = absurd (cc)
