-- What is known of the hub over a Unix socket, which is seen as how many faults there were.
use Rattle.std.specs.Prelude.{◌≡◌, ℕ, List, Option}

-- Who connects isn't known, so any connection may be given, or none.
abbrev pub MayAccept : {C : Type 0} → ℕ → Option C → ℕ → Type 0
MayAccept old conn new = new ≡ old

-- What a socket gives and takes isn't known, so these may be any bytes, or the call may have to wait. The connection stays the one
-- that it is.
abbrev pub MayMove : {C : Type 0} → ℕ → C → Option (List ℕ) → ℕ → C → Type 0
MayMove old conn bytes new next_conn = (new ≡ old) × (next_conn ≡ conn)

-- a closed connection leaves the count
abbrev pub MayClose : {C : Type 0} → ℕ → C → ℕ → Type 0
MayClose old conn new = new ≡ old
