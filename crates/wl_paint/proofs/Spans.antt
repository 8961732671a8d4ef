-- A span of points, marked word by word.
use Rattle.std.proofs.Common.{◌≡◌, ◌≢◌, ℕ, ◌<◌, ◌≤◌, ◌+◌, ◌*◌, ◌/◌, ◌%◌, Bool, true, false, List, length, refl, ap, sym, ◌∙◌, arith, inl, inr, ◌||◌}
use Rattle.std.specs.Prelude.{slice_index}
use Rattle.std.proofs.lemmas.Bool.{cases_eq, cases_lt}
use Rattle.wl_paint.specs.Damage.{count_below, is_between}
use Rattle.wl_paint.specs.Words.{is_marked, is_set}
use Rattle.wl_paint.proofs.Clips.{between_none}

or-none : (a b : Bool) → b ≡ false → a ≡ (a || b)
or-none true b e = refl
or-none false b e = sym e

-- a point's mark is that of its word
same-word : (words next : List ℕ) (x : ℕ) → slice_index next (x / 64) ≡ slice_index words (x / 64) → is_marked next x ≡ is_marked words x
same-word words next x e = ap (λ (w : ℕ). is_set w (x % 64)) e

before-first : (x first : ℕ) → x / 64 < first / 64 → x < first
before-first x first h = omega arith

-- before the first word no point is in the span
pub span-init : (words : List ℕ) (first end x : ℕ) → x / 64 < first / 64 → is_marked words x ≡ (is_marked words x || is_between first end x)
span-init words first end x h = or-none (is_marked words x) (is_between first end x) (between_none first end x (inl (before-first x first h)))

-- one word more
pub span-more : (was words next : List ℕ) (first end k : ℕ) → ((x : ℕ) → x / 64 < k → is_marked words x ≡ (is_marked was x || is_between first end x))
    → ((j : ℕ) → k ≤ j → slice_index words j ≡ slice_index was j) → ((x : ℕ) → x / 64 ≡ k → is_marked next x ≡ (is_marked words x || is_between first end x))
    → ((j : ℕ) → j ≢ k → slice_index next j ≡ slice_index words j) → (x : ℕ) → x / 64 < k + 1 → is_marked next x ≡ (is_marked was x || is_between first end x)
span-more was words next first end k points rest here others x h =
    elim (cases_eq (x / 64) k) [
      | inl e ↦ (here x e ∙ ap (λ (b : Bool). b || is_between first end x) (same-word was words x (rest (x / 64) (omega arith))))
      | inr n ↦ (same-word words next x (others (x / 64) n) ∙ points x (omega arith))
    ]

-- the words behind it are as they were
pub span-rest : (was words next : List ℕ) (k : ℕ) → ((j : ℕ) → k ≤ j → slice_index words j ≡ slice_index was j) → ((j : ℕ) → j ≢ k → slice_index next j ≡ slice_index words j)
    → (j : ℕ) → k + 1 ≤ j → slice_index next j ≡ slice_index was j
span-rest was words next k rest others j h = others j (λ e. absurd (omega arith)) ∙ rest j (omega arith)

pub none-added : (n : ℕ) → 0 + n ≡ n
none-added n = omega arith

added : (more r a b d : ℕ) → more + a ≡ b → r + b ≡ d → more + r + a ≡ d
added more r a b d e q = omega arith

pub span-counted : (was words next : List ℕ) (more r : ℕ) → length next ≡ length words → more + count_below (64 * length words) (is_marked was) ≡ count_below (64 * length words) (is_marked words)
    → r + count_below (64 * length words) (is_marked words) ≡ count_below (64 * length words) (is_marked next)
    → more + r + count_below (64 * length next) (is_marked was) ≡ count_below (64 * length next) (is_marked next)
span-counted was words next more r long so_far here = rw long (added more r _ _ _ so_far here)

-- behind the last word no point is in the span
pub span-all : (was words : List ℕ) (first end k : ℕ) → (end + 63) / 64 ≤ k → ((x : ℕ) → x / 64 < k → is_marked words x ≡ (is_marked was x || is_between first end x))
    → ((j : ℕ) → k ≤ j → slice_index words j ≡ slice_index was j) → (x : ℕ) → is_marked words x ≡ (is_marked was x || is_between first end x)
span-all was words first end k last points rest x =
    elim (cases_lt (x / 64) k) [
      | inl l ↦ points x l
      | inr g ↦ (same-word was words x (rest (x / 64) g) ∙ or-none (is_marked was x) (is_between first end x) (between_none first end x (inr (omega (arith, g, last)))))
    ]
