-- Which ranges of stores a text names.
use Rattle.std.specs.Prelude.{ℕ, ◌+◌, ◌==◌, ◌&&◌, ◌||◌, Bool, true, not, nat_lt, if◌then◌else◌, List, [], ◌∷◌, drop, map, take}
use Rattle.std.specs.Prelude.{Option, Some, None}
use Rattle.std.specs.List.{prefix_len, slice_get, take_while}
use Rattle.std.specs.Option.{option_and_then, option_map, some_prefix}
use Rattle.wl_recording.specs.Line.{number_of}
use Rattle.wl_recording.specs.declared.range.StoreRange.{StoreRange}

-- these lines, with one more byte at the front of the first, if there is one
abbrev pub with_byte : ℕ → List (List ℕ) → List (List ℕ)
with_byte b [] = []
with_byte b (line ∷ lines) = (b ∷ line) ∷ lines

-- the lines of a text that end with a line feed, each without it
abbrev pub lines_of : List ℕ → List (List ℕ)
lines_of [] = []
lines_of (b ∷ text) = if b == 10 then [] ∷ lines_of text else with_byte b (lines_of text)

-- what stands before the first space of a line, and what behind it
abbrev pub before_space : List ℕ → List ℕ
before_space line = take_while (λ b. not (b == 32)) line

abbrev pub behind_space : List ℕ → List ℕ
behind_space line = drop (1 + prefix_len (λ b. not (b == 32)) line) line

-- a range, by its four numbers
abbrev pub range_by : Option ℕ → Option ℕ → Option ℕ → Option ℕ → Option StoreRange
range_by store at len from =
    option_and_then (λ k. option_and_then (λ a. option_and_then (λ l. option_map (λ f. record { store = k; at = a; len = l; from = f })
    from) len) at) store

-- The range that a line names by four numbers, with one space between. They are the store, the byte
-- at which the range begins, how many bytes it has, and the byte of the file that they come from.
abbrev pub range_in : List ℕ → Option StoreRange
range_in line =
    range_by (number_of (before_space line)) (number_of (before_space (behind_space line)))
    (number_of (before_space (behind_space (behind_space line)))) (number_of (behind_space (behind_space (behind_space line))))

-- A range rises behind the one before if it is of a later store, or begins at a later byte of the
-- same.
abbrev pub rises : Option StoreRange → StoreRange → Bool
rises None range = true
rises (Some before) range = nat_lt before.store range.store || (before.store == range.store && nat_lt before.at range.at)

-- these ranges, up to the first that doesn't rise
abbrev pub rising : Option StoreRange → List StoreRange → List StoreRange
rising before [] = []
rising before (range ∷ ranges) = if rises before range then range ∷ rising (Some range) ranges else []

-- the ranges that lines name, up to the first line that names none, or whose range doesn't rise
abbrev pub ranges_in : Option StoreRange → List (List ℕ) → List StoreRange
ranges_in before lines = rising before (some_prefix (map range_in lines))

-- the ranges that a text names: those of its first 4,096 lines
abbrev pub ranges_of : List ℕ → List StoreRange
ranges_of text = ranges_in None (take 4096 (lines_of text))

-- the first of the ranges that lines name
abbrev pub first_range : Option StoreRange → List (List ℕ) → Option StoreRange
first_range before lines = slice_get (ranges_in before lines) 0
