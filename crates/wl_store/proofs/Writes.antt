-- A store's bytes after they grew.
use Rattle.std.proofs.Common.{◌≡◌, ℕ, ◌+◌, ◌-◌, ◌≤◌, List, [], ◌++◌, length, length-append, take, replicate, append_assoc, inl, inr, true, ap, arith, sym, ◌∙◌}
use Rattle.std.specs.Prelude.{nat_lt}
use Rattle.std.proofs.Math.Nat.{sub_self}
use Rattle.std.proofs.lemmas.Bool.Decides.{nat_tests}
use Rattle.std.proofs.lemmas.List.{append-nil, length-replicate, replicate-append-replicate, take_all}
use Rattle.wl_store.specs.Kept.{HoldsBytes}
use Rattle.wl_store.specs.Stores.{Held}

pub within-room : (size room : ℕ) (bytes : List ℕ) → HoldsBytes size room bytes → length bytes ≤ size
within-room size room bytes h = elim h [ inl none ↦ rw none.0 (omega arith) | inr whole ↦ omega arith ]

-- zeros after some bytes, up to a size
abbrev padded : ℕ → List ℕ → List ℕ
padded size bytes = bytes ++ replicate (size - length bytes) 0

length-padded : (size : ℕ) (bytes : List ℕ) → length bytes ≤ size → length (padded size bytes) ≡ size
length-padded size bytes h = simp (length-append, length-replicate) (omega arith)

padded_twice : (old size : ℕ) (bytes : List ℕ) → length bytes ≤ old → old ≤ size → padded size (padded old bytes) ≡ padded size bytes
padded_twice old size bytes h k =
    let zeros : ℕ → List ℕ = λ n. replicate n 0 in
    let count : old - length bytes + (size - old) ≡ size - length bytes = omega arith in
    ap (λ n. padded old bytes ++ zeros (size - n)) (length-padded old bytes h)
    ∙ append_assoc bytes (zeros (old - length bytes)) (zeros (size - old))
    ∙ ap (λ z. bytes ++ z) (replicate-append-replicate (old - length bytes) (size - old) 0)
    ∙ ap (λ n. bytes ++ zeros n) count

-- The bytes, with zeros put behind them, are those that are seen.
pub refilled-is : (size len : ℕ) (was kept now : List ℕ) → length was ≤ size → kept ≡ was → len ≡ length kept → now ≡ take size kept ++ replicate (size - len) 0
    → now ++ replicate (size - length now) 0 ≡ was ++ replicate (size - length was) 0
refilled-is size len was kept now h k l e =
    let filled : now ≡ padded size was = rw (e, l, k, take_all size was h) in
    let whole : length now ≡ size = ap length filled ∙ length-padded size was h in
    rw (whole, sub_self size, append-nil now) filled

-- There are no more bytes than after the growth.
pub within-grown : (number uses old size : ℕ) (was : List ℕ) (s : Held) → record { number = number; bytes = was ++ replicate (old - length was) 0; uses = uses } ≡ s → length was ≤ old → length s.bytes ≤ size
    → length was ≤ size
within-grown number uses old size was s v h k =
    let had : length (padded old was) ≡ length s.bytes = ap (λ (t : Held). length t.bytes) v in
    omega (arith, had, length-padded old was h)

-- a store with zeros at its end
pub grown-is : (number uses old size : ℕ) (was now : List ℕ) (s : Held) → record { number = number; bytes = was ++ replicate (old - length was) 0; uses = uses } ≡ s → length was ≤ old → length s.bytes ≤ size
    → now ++ replicate (size - length now) 0 ≡ was ++ replicate (size - length was) 0
    → record { number = number; bytes = now ++ replicate (size - length now) 0; uses = uses } ≡ record s { bytes = s.bytes ++ replicate (size - length s.bytes) 0 }
grown-is number uses old size was now s v h k e =
    let had : length (padded old was) ≡ length s.bytes = ap (λ (t : Held). length t.bytes) v in
    let within : old ≤ size = omega (arith, had, length-padded old was h) in
    let with_bytes : List ℕ → Held = λ bs. record { number = number; bytes = bs; uses = uses } in
    let grown : Held → Held = λ t. record t { bytes = t.bytes ++ replicate (size - length t.bytes) 0 } in
    ap with_bytes (e ∙ sym (padded_twice old size was h within)) ∙ ap grown v

-- A blank store has no bytes yet.
pub blank-none : (size room : ℕ) (bytes : List ℕ) → HoldsBytes size room bytes → nat_lt (length bytes) size ≡ true → bytes ≡ []
blank-none size room bytes h e = elim h [ inl none ↦ none.0 | inr whole ↦ absurd (grind (arith, nat_tests)) ]
