-- The rate that a word of the command line spells, in turns a second.
use Rattle.std.specs.Prelude.{ℕ, Bool, nat_le, ◌&&◌, if◌then◌else◌, List, Option, Some, None}
use Rattle.std.specs.Option.{option_and_then}
use Rattle.wl_recording.specs.Line.{number_of}

abbrev pub is_rate : ℕ → Bool
is_rate hertz = nat_le 1 hertz && nat_le hertz 1000

-- A rate is a number from 1 to 1,000.
abbrev pub rate_of : List ℕ → Option ℕ
rate_of word = option_and_then (λ hertz. if is_rate hertz then Some hertz else None) (number_of word)
