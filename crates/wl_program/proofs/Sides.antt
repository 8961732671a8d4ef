-- Which numbers are sides.
use Rattle.std.proofs.Common.{◌≡◌, ◌∙◌, sym, ap, refl, inl, inr, ℕ, ◌<◌, ◌≤◌, true, false, List, Option, Some, None}
use Rattle.std.specs.Prelude.{◌⊎◌, if◌then◌else◌}
use Rattle.std.specs.Option.{option_and_then}
use Rattle.std.proofs.lemmas.Bool.{le-leb, lt-leb}
use Rattle.wl_paint.specs.Frame.{is_side}
use Rattle.wl_recording.specs.Line.{number_of}
use Rattle.wl_program.specs.Size.{side_of}

pub side-within : (n : ℕ) → 1 ≤ n → n ≤ 4096 → is_side n ≡ true
side-within n low high = rw (le-leb 1 n low, le-leb n 4096 high) refl

side-outside : (n : ℕ) → (n < 1) ⊎ ((1 ≤ n) × (4096 < n)) → is_side n ≡ false
side-outside n (inl low) = rw (lt-leb 1 n low) refl
side-outside n (inr high) = rw (le-leb 1 n high.0, lt-leb n 4096 high.1) refl

abbrev if_side : ℕ → Option ℕ
if_side side = if is_side side then Some side else None

pub side-none : (word : List ℕ) (n : ℕ) → number_of word ≡ Some n → (n < 1) ⊎ ((1 ≤ n) × (4096 < n)) → None ≡ side_of word
side-none word n is out = sym (ap (option_and_then if_side) is ∙ ap (λ b. if b then Some n else None) (side-outside n out))

pub side-some : (word : List ℕ) (n : ℕ) → number_of word ≡ Some n → 1 ≤ n → n ≤ 4096 → Some n ≡ side_of word
side-some word n is low high = sym (ap (option_and_then if_side) is ∙ ap (λ b. if b then Some n else None) (side-within n low high))
