-- Which ranges some texts name.
use Rattle.std.proofs.Common.{◌≡◌, ℕ, [], ◌∷◌, refl}
use Rattle.std.specs.Prelude.{codes}
use Rattle.wl_recording.specs.Ranges.{ranges_of}
use Rattle.wl_recording.specs.declared.range.StoreRange.{StoreRange}

range : ℕ → ℕ → ℕ → ℕ → StoreRange
range store at len from = record { store = store; at = at; len = len; from = from }

no-line : ranges_of [] ≡ []
no-line = refl

two-stores : ranges_of (codes "1 0 16 4\n1 32 8 36\n2 0 4 0\n") ≡ range 1 0 16 4 ∷ range 1 32 8 36 ∷ range 2 0 4 0 ∷ []
unfolding range
two-stores = refl

-- A line without its line feed names none.
cut-off : ranges_of (codes "1 0 16 4\n1 32 8 36") ≡ range 1 0 16 4 ∷ []
unfolding range
cut-off = refl

-- the same byte doesn't rise, nor does an earlier store
not-rising : ranges_of (codes "2 0 16 4\n2 0 8 36\n3 0 4 0\n") ≡ range 2 0 16 4 ∷ []
unfolding range
not-rising = refl

falling : ranges_of (codes "2 0 16 4\n1 8 8 36\n3 0 4 0\n") ≡ range 2 0 16 4 ∷ []
unfolding range
falling = refl

-- These lines name no range: three numbers, five numbers, two spaces, a space at an end, and a word
-- that is no number.
three-numbers : ranges_of (codes "1 0 16\n2 0 16 0\n") ≡ []
three-numbers = refl

five-numbers : ranges_of (codes "1 0 16 0 0\n2 0 16 0\n") ≡ []
five-numbers = refl

two-spaces : ranges_of (codes "1  0 16 0\n") ≡ []
two-spaces = refl

space-at-end : ranges_of (codes "1 0 16 0 \n") ≡ []
space-at-end = refl

no-number : ranges_of (codes "1 0 -1 0\n") ≡ []
no-number = refl

-- 2^32 - 1 is the greatest number, and zeros may stand before one
greatest : ranges_of (codes "01 0 4294967295 0\n2 0 4294967296 0\n") ≡ range 1 0 4294967295 0 ∷ []
unfolding range
greatest = refl

-- An empty line names none either.
empty-line : ranges_of (codes "1 0 16 4\n\n2 0 4 0\n") ≡ range 1 0 16 4 ∷ []
unfolding range
empty-line = refl
