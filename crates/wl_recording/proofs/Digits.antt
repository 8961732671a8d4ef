-- Hex digits, byte by byte and part by part.
use Rattle.std.proofs.Common.{◌≡◌, ℕ, ◌+◌, ◌*◌, ◌-◌, ◌<◌, ◌≤◌, List, [], ◌∷◌, ◌++◌, length, take, drop, get_or, refl, ap, sym, ◌∙◌, append_assoc, arith, length-set}
use Rattle.std.specs.Prelude.{slice_set, ◌/◌, ◌%◌}
use Rattle.std.proofs.lemmas.List.{take_more, take_more_set, take-append-drop, take-take, drop-take}
use Rattle.wl_recording.specs.Text.{hex_digit, hex_of}

pub hex_of-append : (front bytes : List ℕ) → hex_of (front ++ bytes) ≡ hex_of front ++ hex_of bytes
hex_of-append [] bytes = refl
hex_of-append (b ∷ front) bytes = ap (λ (t : List ℕ). hex_digit (b / 16) ∷ hex_digit (b % 16) ∷ t) (hex_of-append front bytes)

-- two more digits at the end of a front
take-two : (xs : List ℕ) (n a b : ℕ) → n + 1 < length xs → take (n + 2) (slice_set (slice_set xs n a) (n + 1) b) ≡ take n xs ++ a ∷ b ∷ []
take-two xs n a b h =
    let one : n < length xs = omega arith in
    let two : n + 1 < length (slice_set xs n a) = rw length-set h in
    let e : n + 2 ≡ n + 1 + 1 = omega arith in
    rw e (take_more_set (slice_set xs n a) (n + 1) b two ∙ ap (λ (t : List ℕ). t ++ b ∷ []) (take_more_set xs n a one) ∙ append_assoc (take n xs) (a ∷ []) (b ∷ []))

-- one more byte
pub spelt_more : (digits bytes : List ℕ) (i : ℕ) → 2 * i + 1 < length digits → i < length bytes → take (2 * i) digits ≡ hex_of (take i bytes)
    → take (2 * (i + 1)) (slice_set (slice_set digits (2 * i) (hex_digit (get_or bytes i 0 / 16))) (2 * i + 1) (hex_digit (get_or bytes i 0 % 16)))
    ≡ hex_of (take (i + 1) bytes)
spelt_more digits bytes i h some is =
    let e : 2 * (i + 1) ≡ 2 * i + 2 = omega arith in
    rw e (take-two digits (2 * i) _ _ h) ∙ ap (λ (t : List ℕ). t ++ hex_digit (get_or bytes i 0 / 16) ∷ hex_digit (get_or bytes i 0 % 16) ∷ []) is
    ∙ sym (ap hex_of (take_more bytes i 0 some) ∙ hex_of-append (take i bytes) (get_or bytes i 0 ∷ []))

-- the digits of the bytes from `done` up to `end` follow those of the bytes before
pub hex_of-chunk : (done end : ℕ) (bytes : List ℕ) → done ≤ end → hex_of (take end bytes) ≡ hex_of (take done bytes) ++ hex_of (take (end - done) (drop done bytes))
hex_of-chunk done end bytes order =
    let all : end ≡ done + (end - done) = omega arith in
    let front : take done (take end bytes) ≡ take done bytes = take-take done end bytes order in
    let back : drop done (take end bytes) ≡ take (end - done) (drop done bytes) =
    ap (λ (n : ℕ). drop done (take n bytes)) all ∙ drop-take done (end - done) bytes in
    let parts : take end bytes ≡ take done bytes ++ take (end - done) (drop done bytes) =
    sym (take-append-drop done (take end bytes)) ∙ ap (λ (t : List ℕ). t ++ drop done (take end bytes)) front ∙ ap (λ (t : List ℕ). take done bytes ++ t) back in
    ap hex_of parts ∙ hex_of-append (take done bytes) (take (end - done) (drop done bytes))
