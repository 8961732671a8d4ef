-- A recording with one more line.
use Rattle.std.proofs.Common.{◌≡◌, ◌+◌, ◌-◌, ◌<◌, ◌≤◌, ℕ, true, false, List, [], ◌∷◌, ◌++◌, Option, Result, Ok, Err, length, take, refl, ap, sym, ◌∙◌, subst, arith, length-append, append-nil}
use Rattle.std.specs.Prelude.{OnOk, flat_map, nat_lt}
use Rattle.std.specs.Io.KnownBytes.{Appends}
use Rattle.std.proofs.KnownBytes.{Appends-trans}
use Rattle.std.proofs.lemmas.Bool.{le-ltb, lt-ltb}
use Rattle.std.proofs.lemmas.List.{take-append-le, take_all}
use Rattle.std.proofs.lemmas.List.Concat.{flat_map-append}
use Rattle.wl_recording.specs.Line.{Asked}
use Rattle.wl_recording.specs.Recording.{Holds, Recording, recording_of}
use Rattle.wl_recording.specs.Written.{last_line, line_of}

-- It has fewer lines than it may.
recording-few : (most : ℕ) (asked : List Asked) → length asked < most → recording_of most asked ≡ flat_map line_of asked
recording-few most asked few =
    let test : nat_lt (length asked) most ≡ true = lt-ltb (length asked) most few in
    let all : take (most - 1) asked ≡ asked = take_all (most - 1) asked (omega (arith, few)) in
    rw (test, all) (append-nil (flat_map line_of asked))

one-more : (asked : List Asked) (a : Asked) → length (asked ++ a ∷ []) ≡ length asked + 1
one-more asked a = length-append asked (a ∷ [])

-- One more line is written.
recording-more : (most : ℕ) (asked : List Asked) (a : Asked) → length asked + 1 < most → recording_of most (asked ++ a ∷ []) ≡ recording_of most asked ++ line_of a
recording-more most asked a few =
    let len = one-more asked a in
    let old = recording-few most asked (omega (arith, few)) in
    recording-few most (asked ++ a ∷ []) (omega (arith, len, few))
    ∙ (flat_map-append line_of asked (a ∷ []) ∙ (ap (λ (t : List ℕ). flat_map line_of asked ++ t) (append-nil (line_of a)) ∙ ap (λ (t : List ℕ). t ++ line_of a) (sym old)))

-- The last line is written.
recording-last : (most : ℕ) (asked : List Asked) (a : Asked) → length asked + 1 ≡ most → recording_of most (asked ++ a ∷ []) ≡ recording_of most asked ++ last_line
recording-last most asked a is =
    let len = one-more asked a in
    let old = recording-few most asked (omega (arith, is)) in
    let test : nat_lt (length (asked ++ a ∷ [])) most ≡ false = le-ltb (length (asked ++ a ∷ [])) most (omega (arith, len, is)) in
    let front : take (most - 1) (asked ++ a ∷ []) ≡ asked = take-append-le (most - 1) asked (a ∷ []) (omega (arith, is)) ∙ take_all (most - 1) asked (omega (arith, is)) in
    rw (test, front) (ap (λ (t : List ℕ). t ++ last_line) (sym old))

-- Nothing more is written.
recording-full : (most : ℕ) (asked : List Asked) (a : Asked) → most ≤ length asked → recording_of most (asked ++ a ∷ []) ≡ recording_of most asked
recording-full most asked a full =
    let len = one-more asked a in
    let later : nat_lt (length (asked ++ a ∷ [])) most ≡ false = le-ltb (length (asked ++ a ∷ [])) most (omega (arith, len, full)) in
    let before : nat_lt (length asked) most ≡ false = le-ltb (length asked) most full in
    let front : take (most - 1) (asked ++ a ∷ []) ≡ take (most - 1) asked = take-append-le (most - 1) asked (a ∷ []) (omega (arith, full)) in
    rw (later, before, front) refl

pub holds-more : {W : Type 0} (most : ℕ) (contents : W → Option (List ℕ)) (first : Option (List ℕ)) (asked : List Asked) (a : Asked) (old new : Recording W)
    → Holds most contents first asked old → old.lines + 1 < most → new.lines ≡ old.lines + 1 → Appends (contents old.writer) (contents new.writer) (line_of a)
    → Holds most contents first (asked ++ a ∷ []) new
holds-more most contents first asked a old new holds few grown writes =
    let len = one-more asked a in
    let is : old.lines ≡ length asked = omega (arith, holds.lines, few) in
    record {
      lines = omega (arith, len, is, grown, few);
      text = subst (Appends first (contents new.writer)) (sym (recording-more most asked a (omega (arith, is, few)))) (Appends-trans _ _ _ _ _ holds.text writes);
    }

pub holds-last : {W : Type 0} (most : ℕ) (contents : W → Option (List ℕ)) (first : Option (List ℕ)) (asked : List Asked) (a : Asked) (old new : Recording W)
    → Holds most contents first asked old → old.lines + 1 ≡ most → new.lines ≡ old.lines + 1 → Appends (contents old.writer) (contents new.writer) last_line
    → Holds most contents first (asked ++ a ∷ []) new
holds-last most contents first asked a old new holds last grown writes =
    let len = one-more asked a in
    let is : old.lines ≡ length asked = omega (arith, holds.lines, last) in
    record {
      lines = omega (arith, len, is, grown, last);
      text = subst (Appends first (contents new.writer)) (sym (recording-last most asked a (omega (arith, is, last)))) (Appends-trans _ _ _ _ _ holds.text writes);
    }

pub holds-full : {W : Type 0} (most : ℕ) (contents : W → Option (List ℕ)) (first : Option (List ℕ)) (asked : List Asked) (a : Asked) (old : Recording W)
    → Holds most contents first asked old → most ≤ old.lines → Holds most contents first (asked ++ a ∷ []) old
holds-full most contents first asked a old holds full =
    let len = one-more asked a in
    let long : most ≤ length asked = omega (arith, holds.lines, full) in
    record {
      lines = omega (arith, len, holds.lines, full);
      text = subst (Appends first (contents old.writer)) (sym (recording-full most asked a long)) holds.text;
    }

-- ---- the same, by what a write came to

pub ok-more : {W T E : Type 0} (r : Result T E) (most : ℕ) (contents : W → Option (List ℕ)) (a : Asked) (old : Recording W) (lines : ℕ) (was now : W)
    → record { writer = was; lines = lines } ≡ old → lines < most → (lines + 1 ≡ most → ⊥) → OnOk r (Appends (contents was) (contents now) (line_of a))
    → OnOk r ((first : Option (List ℕ)) (asked : List Asked) → Holds most contents first asked old
    → Holds most contents first (asked ++ a ∷ []) (record { writer = now; lines = lines + 1 }))
ok-more (Ok v) most contents a old lines was now view few isnt writes = λ first asked holds.
    holds-more most contents first asked a (record { writer = was; lines = lines }) (record { writer = now; lines = lines + 1 })
    (subst (Holds most contents first asked) (sym view) holds) (omega (arith, few, isnt)) refl writes
ok-more (Err e) most contents a old lines was now view few isnt writes = tt

pub ok-last : {W T E : Type 0} (r : Result T E) (most : ℕ) (contents : W → Option (List ℕ)) (a : Asked) (old : Recording W) (lines : ℕ) (was now : W)
    → record { writer = was; lines = lines } ≡ old → lines + 1 ≡ most → OnOk r (Appends (contents was) (contents now) last_line)
    → OnOk r ((first : Option (List ℕ)) (asked : List Asked) → Holds most contents first asked old
    → Holds most contents first (asked ++ a ∷ []) (record { writer = now; lines = lines + 1 }))
ok-last (Ok v) most contents a old lines was now view last writes = λ first asked holds.
    holds-last most contents first asked a (record { writer = was; lines = lines }) (record { writer = now; lines = lines + 1 })
    (subst (Holds most contents first asked) (sym view) holds) last refl writes
ok-last (Err e) most contents a old lines was now view last writes = tt
