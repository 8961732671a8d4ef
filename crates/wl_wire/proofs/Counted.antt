-- What is counted by a length in front.
use Rattle.std.proofs.Common.{◌≡◌, ℕ, suc, ◌+◌, ◌-◌, ◌<◌, ◌≤◌, List, [], ◌∷◌, ◌++◌, length, take, drop, get_or, subst, sym, ◌∙◌, ap, arith, length-drop}
use Rattle.std.proofs.Math.Seq.{take-add, take-suc, take-length}
use Rattle.std.proofs.lemmas.List.{take-append-drop, length-take-le, get_or-drop}
use Rattle.std.specs.Int.{w32, to_le_bytes}
use Rattle.wl_wire.specs.Wire.{Field, Counts, Spells, Takes, Text, Block, padding, whole}

-- the counted bytes at the front, with the length before and the padding behind them
pub counted_front : (bytes : List ℕ) (n : ℕ) → to_le_bytes w32 n ≡ take 4 bytes → whole n ≤ length bytes → (here : List ℕ) × Counts (take n (drop 4 bytes)) here
    × (bytes ≡ here ++ drop (whole n) bytes)
counted_front bytes n word enough =
    let counted : List ℕ = take n (drop 4 bytes) in
    let fill : List ℕ = take (padding n) (drop (4 + n) bytes) in
    let n-is : length counted ≡ n = length-take-le n (drop 4 bytes) (omega (arith, length-drop 4 bytes)) in
    let fill-is : length fill ≡ padding n = length-take-le (padding n) (drop (4 + n) bytes) (omega (arith, length-drop (4 + n) bytes)) in
    let parted : bytes ≡ take 4 bytes ++ counted ++ fill ++ drop (whole n) bytes =
    sym (take-append-drop (whole n) bytes)
    ∙ ap (λ (u : List ℕ). u ++ drop (whole n) bytes) (take-add (4 + n) (padding n) bytes ∙ ap (λ (u : List ℕ). u ++ fill) (take-add 4 n bytes)) in (
      to_le_bytes w32 n ++ counted ++ fill,
      (fill, fill-is ∙ ap padding (sym n-is), ap (λ (u : ℕ). to_le_bytes w32 u ++ counted ++ fill) (sym n-is)),
      parted ∙ ap (λ (u : List ℕ). u ++ counted ++ fill ++ drop (whole n) bytes) (sym word),
    )

pub block_front : (bytes : List ℕ) (n : ℕ) → to_le_bytes w32 n ≡ take 4 bytes → whole n ≤ length bytes → Takes bytes (Block (take n (drop 4 bytes))) (drop (whole n) bytes)
block_front bytes n word enough = counted_front bytes n word enough

-- the counted bytes of a string end with its NUL
pub text_and_nul : (bytes : List ℕ) (n : ℕ) → 0 < n → 4 + n ≤ length bytes → get_or bytes (3 + n) 0 ≡ 0 → take n (drop 4 bytes) ≡ take (n - 1) (drop 4 bytes) ++ 0 ∷ []
text_and_nul bytes n some enough nul =
    let e : n ≡ suc (n - 1) = omega arith in
    ap (λ (u : ℕ). take u (drop 4 bytes)) e
    ∙ take-suc (drop 4 bytes) (n - 1) 0 (omega (arith, length-drop 4 bytes))
    ∙ ap (λ (u : ℕ). take (n - 1) (drop 4 bytes) ++ u ∷ []) (get_or-drop 4 bytes (n - 1) 0 ∙ ap (λ (u : ℕ). get_or bytes u 0) (omega arith) ∙ nul)

pub text_front : (bytes : List ℕ) (n : ℕ) → to_le_bytes w32 n ≡ take 4 bytes → 0 < n → whole n ≤ length bytes → get_or bytes (3 + n) 0 ≡ 0
    → Takes bytes (Text (take (n - 1) (drop 4 bytes))) (drop (whole n) bytes)
text_front bytes n word some enough nul =
    let found = counted_front bytes n word enough in
    let e : take n (drop 4 bytes) ≡ take (n - 1) (drop 4 bytes) ++ 0 ∷ [] = text_and_nul bytes n some (omega arith) nul in
    (found.0, rw e at found.1, found.2)

-- the same as slices by ranges of places have it
range_to_end : (n : ℕ) (bytes : List ℕ) → take (length bytes - n) (drop n bytes) ≡ drop n bytes
range_to_end n bytes = ap (λ (u : ℕ). take u (drop n bytes)) (sym (length-drop n bytes)) ∙ take-length (drop n bytes)

moved : (old bytes : List ℕ) (n : ℕ) (field other : Field) → old ≡ bytes → field ≡ other → Takes bytes field (drop n bytes) → Takes old other (take (length bytes - n) (drop n bytes))
moved old bytes n field other e f is = (is.0, subst (λ (u : Field). Spells u is.0) f is.1, e ∙ is.2 ∙ ap (λ (u : List ℕ). is.0 ++ u) (sym (range_to_end n bytes)))

pub block_range : (old bytes : List ℕ) (n : ℕ) → old ≡ bytes → to_le_bytes w32 n ≡ take 4 bytes → whole n ≤ length bytes
    → Takes old (Block (take (4 + n - 4) (drop 4 bytes))) (take (length bytes - whole n) (drop (whole n) bytes))
block_range old bytes n e word enough =
    moved old bytes (whole n) (Block (take n (drop 4 bytes))) _ e (ap (λ (u : ℕ). Block (take u (drop 4 bytes))) (omega arith)) (block_front bytes n word enough)

pub text_range : (old bytes : List ℕ) (n : ℕ) → old ≡ bytes → to_le_bytes w32 n ≡ take 4 bytes → 0 < n → whole n ≤ length bytes → get_or bytes (3 + n) 0 ≡ 0
    → Takes old (Text (take (3 + n - 4) (drop 4 bytes))) (take (length bytes - whole n) (drop (whole n) bytes))
text_range old bytes n e word some enough nul =
    moved old bytes (whole n) (Text (take (n - 1) (drop 4 bytes))) _ e (ap (λ (u : ℕ). Text (take u (drop 4 bytes))) (omega arith)) (text_front bytes n word some enough nul)
