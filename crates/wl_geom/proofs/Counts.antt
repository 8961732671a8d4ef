-- How a count changes as a list of rectangles is walked through.
use Rattle.std.proofs.Common.{◌≡◌, ℕ, ◌+◌, ◌<◌, ◌≤◌, ℤ, Bool, true, false, not, cond, ◌&&◌, List, [], ◌∷◌, ◌++◌, take, length, get_or, arith, pos, inl, inr, refl}
use Rattle.std.specs.Prelude.{◌≤ℤ◌, ◌⊎◌}
use Rattle.std.proofs.lemmas.Int.{ints}
use Rattle.std.proofs.lemmas.List.Sums.{sum_by_more, sum_by_push}
use Rattle.wl_geom.specs.declared.rect.Rect.{Rect}
use Rattle.wl_geom.specs.Rect.{in_rect, in_span, count_at, bit}

in_span-empty : (start len at : ℤ) → len ≤ℤ pos 0 → in_span start len at ≡ false
in_span-empty start len at h = grind (arith, ints)

pub in_rect-empty : (x y : ℤ) (r : Rect) → (r.w ≤ℤ pos 0) ⊎ (r.h ≤ℤ pos 0) → in_rect x y r ≡ false
in_rect-empty x y r (inl h) = rw (in_span-empty r.x r.w x h)
in_rect-empty x y r (inr h) = grind (arith, in_span-empty r.y r.h y h)

-- a part more has been counted
pub count_at-more : (x y : ℤ) (parts : List Rect) (i : ℕ) (d : Rect) → i < length parts
    → count_at x y (take (i + 1) parts) ≡ count_at x y (take i parts) + bit (in_rect x y (get_or parts i d))
count_at-more x y parts i d l = sum_by_more (λ r. bit (in_rect x y r)) parts i d l

-- a part is put at the end
pub count_at-push : (x y : ℤ) (parts : List Rect) (part : Rect) → count_at x y (parts ++ part ∷ []) ≡ count_at x y parts + bit (in_rect x y part)
count_at-push x y parts part = sum_by_push (λ r. bit (in_rect x y r)) parts part

pub both-false : (a b : Bool) → b ≡ false → (a && b) ≡ false
both-false true b e = e
both-false false b e = refl

-- a hole that shares no point takes nothing away
pub bit-apart : (r h : Bool) → (r && h) ≡ false → bit r ≡ bit (r && not h)
bit-apart true true e = grind arith
bit-apart true false e = refl
bit-apart false h e = refl

-- one more rectangle round the hole
pub around-more : (r h : Bool) (n : ℕ) → cond h 0 n + bit (r && not h) ≡ cond h 0 (n + bit r)
around-more true true n = refl
around-more true false n = refl
around-more false true n = refl
around-more false false n = refl

pub bit-small : (b : Bool) → bit b ≤ 1
bit-small true = omega arith
bit-small false = omega arith
