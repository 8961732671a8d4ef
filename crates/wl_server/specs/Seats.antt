-- The connections of a server's clients.
use Rattle.std.specs.Prelude.{ℕ, ◌-◌, List, Option, None, replicate, slice_index_or, slice_set}

-- How many connections were accepted so far, and of each client, by its number from 1, what it has, if it has one.
pub record Seated (T : Type 0) : Type 0 where
  pub accepted : ℕ
  pub seats : List (Option T)

-- nobody has connected: there may be 32 clients
abbrev pub nobody : {T : Type 0} → Seated T
nobody = record { accepted = 0; seats = replicate 32 None }

-- what the client with this number has
abbrev pub seat_of : {T : Type 0} → ℕ → List (Option T) → Option T
seat_of client seats = slice_index_or seats (client - 1) None

-- the clients, with this one having that
abbrev pub with_seat : {T : Type 0} → ℕ → Option T → List (Option T) → List (Option T)
with_seat client seat seats = slice_set seats (client - 1) seat
