-- A line is taken as what it asks, wherever the bytes were cut.
use Rattle.std.proofs.Common.{◌≡◌, ◌≢◌, ◌<◌, ◌+◌, ℕ, Bool, true, false, List, [], ◌∷◌, ◌++◌, length, refl, ap, sym, ◌∙◌, arith, append_assoc, length-append}
use Rattle.std.specs.Prelude.{All, ◌==◌, nat_lt}
use Rattle.std.proofs.lemmas.List.Elements.{All-head, All-tail}
use Rattle.wl_viewer.specs.Asked.{asked_by}
use Rattle.wl_viewer.specs.Hearing.{heard_after, heard_at, hears, kept, without_line}
use Rattle.wl_viewer.specs.Laws.{InLine, LinesAreTaken}
use Rattle.wl_viewer.specs.View.{Heard}

differs : (a b : ℕ) → a ≢ b → (a == b) ≡ false
differs a b h = grind (arith, h)

below : (a b : ℕ) → a < b → nat_lt a b ≡ true
below a b h = grind (arith, h)

-- a byte of a line is put behind the others
one-more : (heard : Heard) (byte : ℕ) → heard.is_bad ≡ false → InLine byte → length heard.line < 63 → heard_after heard byte ≡ record heard { line = heard.line ++ byte ∷ [] }
one-more heard byte fine is short =
    ap (λ (b : Bool). heard_at b (byte == 10) (nat_lt (length heard.line) 63) heard byte) fine
    ∙ (ap (λ (b : Bool). heard_at false b (nat_lt (length heard.line) 63) heard byte) (differs byte 10 is)
    ∙ ap (λ (b : Bool). heard_at false false b heard byte) (below (length heard.line) 63 short))

-- and the line feed ends it
line-ends : (heard : Heard) → heard.is_bad ≡ false → heard_after heard 10 ≡ kept (asked_by heard.line) (without_line heard)
line-ends heard fine = ap (λ (b : Bool). heard_at b true (nat_lt (length heard.line) 63) heard 10) fine

taken-on : (heard : Heard) (begun line rest : List ℕ) → heard.is_bad ≡ false → All InLine line → length begun + length line < 64
    → hears (record heard { line = begun }) (line ++ 10 ∷ rest) ≡ hears (kept (asked_by (begun ++ line)) (record heard { line = [] })) rest
taken-on heard begun [] rest fine all short =
    ap (λ (h : Heard). hears h rest) (line-ends (record heard { line = begun }) fine)
    ∙ ap (λ (l : List ℕ). hears (kept (asked_by l) (record heard { line = [] })) rest) (sym (append-none begun))
  where
    append-none : (xs : List ℕ) → xs ++ [] ≡ xs
    append-none [] = refl
    append-none (x ∷ xs) = ap (λ (ys : List ℕ). x ∷ ys) (append-none xs)
taken-on heard begun (byte ∷ line) rest fine all short =
    let longer : length (begun ++ byte ∷ []) ≡ length begun + 1 = length-append begun (byte ∷ []) in
    ap (λ (h : Heard). hears h (line ++ 10 ∷ rest)) (one-more (record heard { line = begun }) byte fine (All-head InLine byte line all) (omega (arith, short)))
    ∙ (taken-on heard (begun ++ byte ∷ []) line rest fine (All-tail InLine byte line all) (omega (arith, short, longer))
    ∙ ap (λ (l : List ℕ). hears (kept (asked_by l) (record heard { line = [] })) rest) (append_assoc begun (byte ∷ []) line))

pub lines_are_taken : LinesAreTaken
lines_are_taken heard line rest fine empty all short =
    let same : record heard { line = [] } ≡ heard = ap (λ (l : List ℕ). record heard { line = l }) (sym empty) in
    ap (λ (h : Heard). hears h (line ++ 10 ∷ rest)) (sym same)
    ∙ (taken-on heard [] line rest fine all (omega (arith, short)) ∙ ap (λ (h : Heard). hears (kept (asked_by line) h) rest) same)
