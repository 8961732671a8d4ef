-- What stands at the end after calls that append.
use Rattle.std.proofs.Common.{◌≡◌, ℕ, ◌+◌, ◌<◌, ◌≤◌, List, [], ◌∷◌, ◌++◌, length, take, drop, get_or, Result, Ok, Err, append_assoc, ap, sym, ◌∙◌, arith, length-append, append-nil}
use Rattle.std.proofs.lemmas.List.{at_drop_more, at_drop_all}
use Rattle.std.specs.Int.{w32, to_le_bytes}
use Rattle.std.specs.Prelude.{if◌then◌else◌, is_ok, OnOk, OnErr}
use Rattle.wl_wire.specs.declared.argument.Arg.{Arg}
use Rattle.wl_wire.specs.Wire.{IsPrefix, arg_bytes, args_bytes, counted_bytes, padding}

-- ---- one call

pub appended_ok : {T E : Type 0} (r : Result T E) (now was more want : List ℕ) → now ≡ (if is_ok r then was ++ more else was) → more ≡ want → OnOk r (now ≡ was ++ want)
appended_ok (Ok _) now was more want e w = e ∙ ap (λ (u : List ℕ). was ++ u) w
appended_ok (Err _) now was more want e w = tt

pub appended_err : {T E : Type 0} (r : Result T E) (now was more : List ℕ) → now ≡ (if is_ok r then was ++ more else was) → OnErr r (now ≡ was)
appended_err (Ok _) now was more e = tt
appended_err (Err _) now was more e = e

-- ---- more than one

pub appended_twice : (a b c x y : List ℕ) → b ≡ a ++ x → c ≡ b ++ y → c ≡ a ++ (x ++ y)
appended_twice a b c x y p q = q ∙ ap (λ (u : List ℕ). u ++ y) p ∙ append_assoc a x y

-- what a call that failed leaves after one and after two others
pub begun : {T E : Type 0} (r : Result T E) (now old one x : List ℕ) → one ≡ old ++ x → now ≡ one → OnErr r (IsPrefix old now)
begun (Ok _) now old one x p e = tt
begun (Err _) now old one x p e = (x, e ∙ p)

pub begun_twice : {T E : Type 0} (r : Result T E) (now old one two x y : List ℕ) → one ≡ old ++ x → two ≡ one ++ y → now ≡ two → OnErr r (IsPrefix old now)
begun_twice (Ok _) now old one two x y p q e = tt
begun_twice (Err _) now old one two x y p q e = (x ++ y, e ∙ appended_twice old one two x y p q)

-- the same where the last call says what it returns
pub left_after : {T E : Type 0} (r : Result T E) (now old one two x y : List ℕ) → one ≡ old ++ x → two ≡ one ++ y → OnErr r (now ≡ two) → OnErr r (IsPrefix old now)
left_after (Ok _) now old one two x y p q e = tt
left_after (Err _) now old one two x y p q e = (x ++ y, e ∙ appended_twice old one two x y p q)

-- a length, what it counts, and the bytes that fill up the last word
pub counted_ok : {T E : Type 0} (r : Result T E) (out one two now word block : List ℕ) (n : ℕ) → n ≡ length block → word ≡ to_le_bytes w32 n → one ≡ out ++ word → two ≡ one ++ block
    → OnOk r (now ≡ two ++ take (padding n) (0 ∷ 0 ∷ 0 ∷ [])) → OnOk r (now ≡ out ++ counted_bytes block)
counted_ok (Ok _) out one two now word block n e w p q f =
    let fill : List ℕ = take (padding n) (0 ∷ 0 ∷ 0 ∷ []) in
    appended_twice out two now (word ++ block) fill (appended_twice out one two word block p q) f
    ∙ ap (λ (u : List ℕ). out ++ ((u ++ block) ++ fill)) w
    ∙ ap (λ (k : ℕ). out ++ ((to_le_bytes w32 k ++ block) ++ take (padding k) (0 ∷ 0 ∷ 0 ∷ []))) e
counted_ok (Err _) out one two now word block n e w p q f = tt

-- ---- an argument of many

pub args_next : (args : List Arg) (i : ℕ) (d : Arg) → i < length args → args_bytes (drop i args) ≡ arg_bytes (get_or args i d) ++ args_bytes (drop (i + 1) args)
args_next args i d h = at_drop_more args_bytes args i d h

pub args_told : (out now was : List ℕ) (args : List Arg) (i : ℕ) (d : Arg) (all : List ℕ) → i < length args → now ≡ out ++ arg_bytes (get_or args i d)
    → out ++ args_bytes (drop i args) ≡ was ++ all → now ++ args_bytes (drop (i + 1) args) ≡ was ++ all
args_told out now was args i d all h e t =
    ap (λ (u : List ℕ). u ++ args_bytes (drop (i + 1) args)) e
    ∙ append_assoc out (arg_bytes (get_or args i d)) (args_bytes (drop (i + 1) args))
    ∙ ap (λ (u : List ℕ). out ++ u) (sym (args_next args i d h))
    ∙ t

pub args_more : (out now old : List ℕ) (args : List Arg) (i : ℕ) (d : Arg) → now ≡ out ++ arg_bytes (get_or args i d) → IsPrefix old out → IsPrefix old now
args_more out now old args i d e p = (p.0 ++ arg_bytes (get_or args i d), appended_twice old out now p.0 (arg_bytes (get_or args i d)) p.1 e)

pub args_left : (args : List Arg) (i n : ℕ) (d : Arg) → i < length args → length (args_bytes (drop i args)) ≤ n
    → (length (arg_bytes (get_or args i d)) ≤ n) × (length (args_bytes (drop (i + 1) args)) ≤ n)
args_left args i n d h le =
    let both = ap (λ (u : List ℕ). length u) (args_next args i d h) ∙ length-append (arg_bytes (get_or args i d)) (args_bytes (drop (i + 1) args)) in
    (omega (arith, both), omega (arith, both))

pub args_end : (out was : List ℕ) (args : List Arg) (i : ℕ) (all : List ℕ) → length args ≤ i → out ++ args_bytes (drop i args) ≡ was ++ all → out ≡ was ++ all
args_end out was args i all h t = sym (append-nil out) ∙ ap (λ (u : List ℕ). out ++ u) (sym (at_drop_all args_bytes args i h)) ∙ t
