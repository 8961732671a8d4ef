-- Points that are known to be marked.
use Rattle.std.proofs.Common.{◌≡◌, ◌≤◌, ◌<◌, ◌+◌, ◌*◌, ℕ, Bool, true, false, List, [], ◌||◌, ◌&&◌, length, get_or, arith, refl, ap, sym, ◌∙◌, inl, inr}
use Rattle.std.proofs.lemmas.Bool.{cases_lt, or_cases}
use Rattle.std.proofs.lemmas.Bool.Decides.{nat_tests}
use Rattle.wl_paint.specs.declared.span.Block.{Block}
use Rattle.wl_paint.specs.declared.span.Span.{Span}
use Rattle.wl_paint.specs.Blocks.{IsMarkedIn, is_in_block}
use Rattle.wl_paint.specs.Damage.{count_below, is_between, marked}
use Rattle.wl_paint.specs.Words.{IsWhole, is_marked}
use Rattle.wl_paint.proofs.Marks.{count_below-le}
use Rattle.wl_paint.proofs.PaintedRows.{between-from, between-parts}

-- what lies from `low` up to `high` is marked, and what is left is marked on both sides of it
pub around : (w m n : Bool) (first end low high x : ℕ) → first ≤ low → low ≤ high → high ≤ end → (low ≤ x → x < high → w ≡ true)
    → m ≡ (w || is_between first low x) → n ≡ (m || is_between high end x) → n ≡ (w || is_between first end x)
around true m n first end low high x f o e whole p q = q ∙ ap (λ b. b || is_between high end x) p
around false m n first end low high x f o e whole p q = elim (cases_lt x low) [
  | inl b ↦ left-of m n first end low high x f o e b p q
  | inr a ↦ elim (cases_lt x high) [
    | inl i ↦ absurd (differ (whole a i))
    | inr b ↦ right-of m n first end low high x f o e b p q
  ]
]
  where
    differ : false ≡ true → ⊥
    differ e = cc

    left-of : (m n : Bool) (first end low high x : ℕ) → first ≤ low → low ≤ high → high ≤ end → x < low
        → m ≡ is_between first low x → n ≡ (m || is_between high end x) → n ≡ is_between first end x
    left-of m n first end low high x f o e b p q = grind (arith, nat_tests)

    right-of : (m n : Bool) (first end low high x : ℕ) → first ≤ low → low ≤ high → high ≤ end → high ≤ x
        → m ≡ is_between first low x → n ≡ (m || is_between high end x) → n ≡ is_between first end x
    right-of m n first end low high x f o e b p q = grind (arith, nat_tests)

-- the points of two parts are counted
pub counts-join : (was mid next : List ℕ) (r s : ℕ) → length mid ≡ length was
    → r + count_below (64 * length was) (is_marked was) ≡ count_below (64 * length was) (is_marked mid)
    → s + count_below (64 * length mid) (is_marked mid) ≡ count_below (64 * length mid) (is_marked next)
    → r + s + count_below (64 * length was) (is_marked was) ≡ count_below (64 * length was) (is_marked next)
counts-join was mid next r s e f g = let h = rw e at g in omega (arith, f, h)

pub counts-small : (was mid next : List ℕ) (r s : ℕ) → length mid ≡ length was
    → r + count_below (64 * length was) (is_marked was) ≡ count_below (64 * length was) (is_marked mid)
    → s + count_below (64 * length mid) (is_marked mid) ≡ count_below (64 * length mid) (is_marked next) → length was ≤ 64 → r + s ≤ 4096
counts-small was mid next r s e f g l = omega (arith, counts-join was mid next r s e f g, count_below-le (64 * length was) (is_marked next), l)

or-left : (a b : Bool) → a ≡ true → (a || b) ≡ true
or-left a b e = ap (λ c. c || b) e

or-right : (a b : Bool) → b ≡ true → (a || b) ≡ true
or-right true b e = refl
or-right false b e = e

-- the columns that were known, and those that were marked
pub IsWhole-add : (words next : List ℕ) (first end : ℕ) (whole more : Span) → ((x : ℕ) → is_marked next x ≡ (is_marked words x || is_between first end x)) → IsWhole words whole
    → ((x : ℕ) → is_between more.first more.end x ≡ true → (is_between whole.first whole.end x || is_between first end x) ≡ true) → IsWhole next more
IsWhole-add words next first end whole more points known joined x l h =
    points x ∙ elim (or_cases (is_between whole.first whole.end x) (is_between first end x) (joined x (between-from more.first more.end x l h))) [
      | inl w ↦ (let parts = between-parts whole.first whole.end x w in or-left _ _ (known x parts.0 parts.1))
      | inr b ↦ or-right (is_marked words x) _ b
    ]

-- a point that is marked already
pub marked-already : (h b : Bool) → (b ≡ true → h ≡ true) → h ≡ (h || b)
marked-already true b k = refl
marked-already false true k = k refl
marked-already false false k = refl

-- the block that was known, and the one that was marked
pub IsMarkedIn-add : (was rows : List (List Bool)) (whole block next : Block) (left right top bottom : ℕ) → IsMarkedIn was whole
    → ((x y : ℕ) → is_in_block x y block ≡ (is_between left right x && is_between top bottom y))
    → ((x y : ℕ) → marked (get_or rows y []) x ≡ (marked (get_or was y []) x || (is_between left right x && is_between top bottom y)))
    → ((x y : ℕ) → is_in_block x y next ≡ true → (is_in_block x y whole || is_in_block x y block) ≡ true) → IsMarkedIn rows next
IsMarkedIn-add was rows whole block next left right top bottom known is points larger x y e =
    points x y ∙ elim (or_cases (is_in_block x y whole) (is_in_block x y block) (larger x y e)) [
      | inl w ↦ or-left _ _ (known x y w)
      | inr b ↦ or-right (marked (get_or was y []) x) _ (sym (is x y) ∙ b)
    ]

-- no point is in an empty block
pub IsMarkedIn-none : (rows : List (List Bool)) (x y : ℕ) → (is_between 0 0 x && is_between 0 0 y) ≡ true → marked (get_or rows y []) x ≡ true
IsMarkedIn-none rows x y e = absurd (grind (arith, nat_tests))

pub both-same : {a b c d : Bool} → a ≡ c → b ≡ d → (a && b) ≡ (c && d)
both-same e f = rw (e, f) refl
