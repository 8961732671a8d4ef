-- What a server works on beside its session, and what its hub may do.
use Rattle.std.specs.Prelude.{ℕ, List, Option}
use Rattle.wl_server.specs.Moves.{Moves}
use Rattle.wl_recording.specs.declared.pointer.PointerLine.{PointerLine}
use Rattle.wl_server.specs.declared.seat.Seat.{Seat}
use Rattle.wl_server.specs.Seats.{Seated}

-- the hub, the clients' connections, the side files, and the pointer lines that weren't taken yet
pub record Serving (H C S : Type 0) : Type 0 where
  pub hub : H
  pub connections : Seated (Seat C)
  pub side : S
  pub waiting : List PointerLine

abbrev pub serving : {H C S : Type 0} → H → Seated (Seat C) → S → List PointerLine → Serving H C S
serving hub connections side waiting = record { hub = hub; connections = connections; side = side; waiting = waiting }

-- Which connection an accept may give, which bytes a read may give and a write may take, what closing does, and how many faults were
-- counted, as a hub itself tells it.
pub record Ways (H C : Type 0) : Type 1 where
  pub accepts : H → Option C → H → Type 0
  pub reads : Moves H C
  pub writes : Moves H C
  pub closes : H → C → H → Type 0
  pub faults : H → ℕ

abbrev pub ways : {H C : Type 0} → (H → Option C → H → Type 0) → Moves H C → Moves H C → (H → C → H → Type 0) → (H → ℕ) → Ways H C
ways accepts reads writes closes faults = record { accepts = accepts; reads = reads; writes = writes; closes = closes; faults = faults }
