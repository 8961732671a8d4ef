-- How many turns are taken, and which time each has.
use Rattle.std.specs.Prelude.{ℕ, ◌*◌, ◌/◌, ◌%◌, ◌^◌, ◌-◌, Option, Some, None, unwrap_or, option_map}
use Rattle.wl_program.specs.declared.rate.Rate.{Rate}

-- as many turns as are asked, or as can be counted
abbrev pub count_of : Option ℕ → ℕ
count_of turns = unwrap_or turns (2 ^ 64 - 1)

-- how often turns begin, in turns a second, where it is said
abbrev pub hertz_of : Option Rate → Option ℕ
hertz_of rate = option_map (λ r. r.hertz) rate

-- The time of turn n: its number, or, where turns begin so often a second, the milliseconds that n turns take. It is modulo 2^32.
abbrev pub time_of : Option ℕ → ℕ → ℕ
time_of None n = n % 2 ^ 32
time_of (Some hertz) n = (n * 1000 / hertz) % 2 ^ 32
