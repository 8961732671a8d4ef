-- Worked times of turns, computed on the definition.
use Rattle.std.proofs.Common.{◌≡◌, refl, Some, None}
use Rattle.wl_program.specs.Pace.{count_of, time_of}

-- at 60 turns a second a turn takes 16 2/3 milliseconds
at-sixty : (time_of (Some 60) 1 ≡ 16) × (time_of (Some 60) 3 ≡ 50) × (time_of (Some 60) 60 ≡ 1000)
at-sixty = (refl, refl, refl)

at-thousand : time_of (Some 1000) 7 ≡ 7
at-thousand = refl

-- past 2^32 milliseconds they begin again
wrapped : time_of (Some 1) 4294968 ≡ 704
wrapped = refl

-- without a rate it is the turn's number
unpaced : time_of None 7 ≡ 7
unpaced = refl

counted : (count_of (Some 3) ≡ 3) × (count_of None ≡ 18446744073709551615)
counted = (refl, refl)
