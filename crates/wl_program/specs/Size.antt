-- The size that a word of the command line spells.
use Rattle.std.specs.Prelude.{ℕ, Bool, ◌==◌, if◌then◌else◌, List, Option, Some, None}
use Rattle.std.specs.List.{before_first, after_first}
use Rattle.std.specs.Option.{option_and_then, option_map}
use Rattle.wl_paint.specs.Frame.{is_side}
use Rattle.wl_recording.specs.Line.{number_of}

-- A side is a number from 1 to 4,096.
abbrev pub side_of : List ℕ → Option ℕ
side_of word = option_and_then (λ side. if is_side side then Some side else None) (number_of word)

abbrev pub is_x : ℕ → Bool
is_x b = b == 120

-- Two sides, parted by the first `x`. Where there is none, nothing stands behind it, and that is no number.
abbrev pub size_of : List ℕ → Option (ℕ × ℕ)
size_of text = option_and_then (λ width. option_map (λ height. (width, height)) (side_of (after_first is_x text)))
    (side_of (before_first is_x text))
