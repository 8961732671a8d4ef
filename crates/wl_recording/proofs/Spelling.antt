-- The bytes that a text of hex digits spells, step by step.
use Rattle.std.proofs.Common.{◌≡◌, ℕ, ◌+◌, ◌<◌, true, false, List, [], ◌∷◌, ◌++◌, Option, Some, None, length, drop, get_or, refl, ap, sym, ◌∙◌, append_assoc, arith, eq-eqb}
use Rattle.std.specs.Prelude.{◌==◌}
use Rattle.std.specs.Option.{option_map}
use Rattle.std.proofs.lemmas.Bool.{ne_eqb}
use Rattle.std.proofs.lemmas.List.{drop_more}
use Rattle.wl_recording.specs.Line.{byte_of, before, bytes_in}

-- these bytes, and behind them those that a text spells
abbrev pub after : List ℕ → Option (List ℕ) → Option (List ℕ)
after front bytes = option_map (λ rest. front ++ rest) bytes

after_none : (bytes : Option (List ℕ)) → after [] bytes ≡ bytes
after_none None = refl
after_none (Some bs) = refl

pub spelt_first : (front text : List ℕ) → front ≡ [] → after front (bytes_in text) ≡ bytes_in text
spelt_first front text is = rw is (after_none (bytes_in text))

pub bytes_in-space : (b : ℕ) (text : List ℕ) → (b == 32) ≡ true → bytes_in (b ∷ text) ≡ bytes_in text
bytes_in-space b [] e = rw e refl
bytes_in-space b (c ∷ text) e = rw e refl

-- a space spells nothing
pub spelt_space : (front text : List ℕ) (at : ℕ) (all : Option (List ℕ)) → at < length text → get_or text at 0 ≡ 32
    → after front (bytes_in (drop at text)) ≡ all → after front (bytes_in (drop (at + 1) text)) ≡ all
spelt_space front text at all h is spelt =
    ap (after front) (sym (ap bytes_in (drop_more text at 0 h) ∙ bytes_in-space (get_or text at 0) (drop (at + 1) text) (eq-eqb _ 32 is))) ∙ spelt

after-before : (front : List ℕ) (byte : ℕ) (bytes : Option (List ℕ)) → after front (before (Some byte) bytes) ≡ after (front ++ byte ∷ []) bytes
after-before front byte None = refl
after-before front byte (Some bs) = ap Some (sym (append_assoc front (byte ∷ []) bs))

pub bytes_in-pair : (high low byte : ℕ) (text : List ℕ) → (high == 32) ≡ false → Some byte ≡ byte_of high low
    → bytes_in (high ∷ low ∷ text) ≡ before (Some byte) (bytes_in text)
bytes_in-pair high low byte text e is = rw (e, ← is) refl

-- two digits spell a byte
pub spelt_pair : (front next text : List ℕ) (at byte : ℕ) (all : Option (List ℕ)) → at + 1 < length text → (get_or text at 0 ≡ 32 → ⊥)
    → Some byte ≡ byte_of (get_or text at 0) (get_or text (at + 1) 0) → next ≡ front ++ byte ∷ []
    → after front (bytes_in (drop at text)) ≡ all → after next (bytes_in (drop (at + 2) text)) ≡ all
spelt_pair front next text at byte all h isnt is grown spelt =
    let first : drop at text ≡ get_or text at 0 ∷ drop (at + 1) text = drop_more text at 0 (omega arith) in
    let second : drop (at + 1) text ≡ get_or text (at + 1) 0 ∷ drop (at + 1 + 1) text = drop_more text (at + 1) 0 h in
    let two : at + 1 + 1 ≡ at + 2 = omega arith in
    let there : drop at text ≡ get_or text at 0 ∷ get_or text (at + 1) 0 ∷ drop (at + 2) text =
    first ∙ ap (λ (t : List ℕ). get_or text at 0 ∷ t) (second ∙ ap (λ (k : ℕ). get_or text (at + 1) 0 ∷ drop k text) two) in
    let pair = bytes_in-pair (get_or text at 0) (get_or text (at + 1) 0) byte (drop (at + 2) text) (ne_eqb _ 32 isnt) is in
    rw grown (sym (after-before front byte (bytes_in (drop (at + 2) text))) ∙ ap (after front) (sym (ap bytes_in there ∙ pair)) ∙ spelt)
