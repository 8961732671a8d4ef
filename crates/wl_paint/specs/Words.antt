-- Rows of points that are marked by the bits of words.
use Rattle.std.specs.Prelude.{◌≡◌, ◌+◌, ◌*◌, ◌/◌, ◌%◌, ◌<◌, ◌≤◌, ℕ, zero, suc, Bool, true, false, ◌==◌, List, [], ◌∷◌, length, slice_index}
use Rattle.std.specs.Int.{bit_at}
use Rattle.wl_paint.specs.declared.span.Span.{Span}
use Rattle.wl_paint.specs.Damage.{count_below}

-- bit i of the word is 1
abbrev pub is_set : ℕ → ℕ → Bool
is_set word i = bit_at word i == 1

-- the words mark the point x: each has 64 points, from its lowest bit on
abbrev pub is_marked : List ℕ → ℕ → Bool
is_marked words x = is_set (slice_index words (x / 64)) (x % 64)

-- the marks of n points from the point x on
abbrev pub marks_from : List ℕ → ℕ → ℕ → List Bool
marks_from words x zero = []
marks_from words x (suc n) = is_marked words x ∷ marks_from words (x + 1) n

-- the words are those of a row of this width, and as many points are marked as were counted
pub record IsRow (width : ℕ) (words : List ℕ) (count : ℕ) : Type 0 where
  pub sized : width ≤ 64 * length words
  pub tight : 64 * length words < width + 64
  pub clear : (x : ℕ) → width ≤ x → is_marked words x ≡ false
  pub counted : count ≡ count_below (64 * length words) (is_marked words)

-- each point of these columns is marked
abbrev pub IsWhole : List ℕ → Span → Type 0
IsWhole words columns = (x : ℕ) → columns.first ≤ x → x < columns.end → is_marked words x ≡ true
