-- What moves over a connection of a hub.
use Rattle.std.specs.Prelude.{◌≡◌, ◌+◌, ◌≤◌, ◌<◌, ◌⊎◌, ℕ, Bool, true, false, List, [], Option, None, Some, take, drop, length}
use Rattle.wl_server.specs.Faults.{Rose}
use Rattle.wl_server.specs.declared.receiving.Received.{Received}
use Rattle.wl_server.specs.declared.receiving.Received.TheVariants.{Bytes, Later, Gone}

-- Which bytes a call may move, or that it would wait, from one state of the hub and the connection to the next.
abbrev pub Moves : Type 0 → Type 0 → Type 1
Moves H C = H → C → Option (List ℕ) → H → C → Type 0

-- What a read into this buffer came to. The client is gone at the end of what it sends, and where the read failed.
abbrev pub Receives : {H C : Type 0} → Moves H C → (H → ℕ) → H → C → List ℕ → Received → H → C → Type 0
Receives reads faults hub conn buf (Bytes n) next_hub next_conn = (0 < n) × (n ≤ length buf)
    × reads hub conn (Some (take n buf)) next_hub next_conn
Receives reads faults hub conn buf Later next_hub next_conn = reads hub conn None next_hub next_conn
Receives reads faults hub conn buf Gone next_hub next_conn = (reads hub conn (Some []) next_hub next_conn × (faults next_hub ≡ faults hub))
    ⊎ Rose (faults hub) (faults next_hub)

-- Writes took the first of these bytes, so many in all: each at least one, and the last of them n.
pub data Wrote {H C : Type 0} (writes : Moves H C) (hub : H) (conn : C) (bytes : List ℕ) : ℕ → H → C → Type 0 where
  none : Wrote writes hub conn bytes 0 hub conn
  more : {sent : ℕ} {mid_hub next_hub : H} {mid_conn next_conn : C} (n : ℕ) → Wrote writes hub conn bytes sent mid_hub mid_conn → 0 < n
      → writes mid_hub mid_conn (Some (take n (drop sent bytes))) next_hub next_conn
      → Wrote writes hub conn bytes (sent + n) next_hub next_conn

-- Why no more of the bytes that are left is written: there are none, the write would wait, or it took none. Where the client is gone,
-- the write failed.
abbrev pub Stops : {H C : Type 0} → Moves H C → (H → ℕ) → H → C → List ℕ → Bool → H → C → Type 0
Stops writes faults hub conn left false next_hub next_conn = ((left ≡ []) × (next_hub ≡ hub) × (next_conn ≡ conn))
    ⊎ (writes hub conn None next_hub next_conn ⊎ writes hub conn (Some []) next_hub next_conn)
Stops writes faults hub conn left true next_hub next_conn = Rose (faults hub) (faults next_hub)

-- the first of these bytes were written, so many, and then no more
abbrev pub Delivers : {H C : Type 0} → Moves H C → (H → ℕ) → H → C → List ℕ → ℕ → Bool → H → C → Type 0
Delivers writes faults hub conn bytes sent is_gone next_hub next_conn = (mid_hub : _) × (mid_conn : _)
    × Wrote writes hub conn bytes sent mid_hub mid_conn
    × Stops writes faults mid_hub mid_conn (drop sent bytes) is_gone next_hub next_conn
