-- What may happen to the plain desktop, and what a step does to the client that it is of.
use Rattle.std.specs.Option.{option_map}
use Rattle.std.specs.Prelude.{ℕ, ℤ, ◌≡◌, ◌+◌, List, [], ◌∷◌, length, nat_le, Bool, true, false, Option, Some, None, is_none, is_some}
use Rattle.wl_store.specs.Stores.{store_at, write_refusal}
use Rattle.wl_store.specs.declared.stores.StoreError.{StoreError}
use Rattle.wl_store.specs.declared.stores.StoreError.TheVariants as refused
use Rattle.spec_desktop.specs.declared.cause.Cause.{Cause}
use Rattle.spec_desktop.specs.declared.answers.Fed.{Fed}
use Rattle.spec_desktop.specs.declared.answers.Fed.TheVariants.{Alive, Ended, NoClient}
use Rattle.spec_desktop.specs.declared.answers.Stored.{Stored}
use Rattle.spec_desktop.specs.declared.answers.Stored.TheVariants as stored
use Rattle.spec_desktop.specs.declared.answers.Done.{Done}
use Rattle.spec_desktop.specs.declared.answers.Done.TheVariants as gave
use Rattle.spec_desktop.specs.Peer.{Peer, left_by, sent_by, stored_at}
use Rattle.spec_desktop.specs.Desktop.{Desktop, Resident, client_at}

-- What may happen, most of it to the client with a number: the steps of a recording, a motion of the pointer, and a button.
pub data Act : Type 0 where
  -- a client connects
  Connect : Act
  -- a piece of a client's stream comes
  Feed : ℕ → List ℕ → Act
  -- bytes are put into a client's store, from one byte of it on
  Store : ℕ → ℕ → ℕ → List ℕ → Act
  -- a client goes
  Leave : ℕ → Act
  -- a frame is shown, at this time
  Tick : ℕ → Act
  -- so many of a client's unsent bytes were sent
  Send : ℕ → ℕ → Act
  -- the number of a client that ended is given back
  Close : ℕ → Act
  -- the pointer moves, at this time, to this point
  Motion : ℕ → ℤ → ℤ → Act
  -- a button of the pointer is pressed or released: the time, the button, and whether it is pressed
  Button : ℕ → ℕ → Bool → Act

-- a frame is shown
abbrev pub is_tick : Act → Bool
is_tick Connect = false
is_tick (Feed client piece) = false
is_tick (Store client store at bytes) = false
is_tick (Leave client) = false
is_tick (Tick time) = true
is_tick (Send client count) = false
is_tick (Close client) = false
is_tick (Motion time x y) = false
is_tick (Button time button pressed) = false

abbrev pub fed_of : Option Cause → Fed
fed_of None = Alive
fed_of (Some cause) = Ended cause

-- what a write of a store answers: an ended client has none
abbrev pub answer_of : Option StoreError → Stored
answer_of None = stored.Done
answer_of (Some refused.OutOfRange) = stored.OutOfRange
answer_of (Some error) = stored.NoStore

abbrev pub stored_of : Option Cause → Option StoreError → Stored
stored_of None refusal = answer_of refusal
stored_of (Some cause) refusal = stored.NoClient

-- bytes are put into the store of this number, from `at` on
abbrev pub IsStored : ℕ → ℕ → List ℕ → Peer → Done → Option Peer → Type 0
IsStored store at bytes p done q =
    (q ≡ Some (stored_at p.status store at bytes p))
    × (done ≡ gave.Store (stored_of p.status (write_refusal store at (length bytes) p.stores)))

abbrev pub IsLeft : Peer → Done → Option Peer → Type 0
IsLeft p done q = (q ≡ Some (left_by p.status p)) × (done ≡ gave.Gone (is_none p.status))

abbrev pub IsSent : ℕ → Peer → Done → Option Peer → Type 0
IsSent n p done q = (q ≡ Some (sent_by n p)) × (done ≡ gave.Sent (nat_le n (length p.unsent)))

abbrev pub closed_by : Option Cause → Peer → Option Peer
closed_by None p = Some p
closed_by (Some cause) p = None

abbrev pub IsClosed : Peer → Done → Option Peer → Type 0
IsClosed p done q = (q ≡ closed_by p.status p) × (done ≡ gave.Close (is_some p.status))

abbrev pub next_of : Option ℕ → Option ℕ
next_of None = None
next_of (Some k) = Some (k + 1)

-- the first place where there is none
abbrev pub lowest : {X : Type 0} → List (Option X) → Option ℕ
lowest [] = None
lowest (None ∷ xs) = Some 0
lowest (Some x ∷ xs) = next_of (lowest xs)

-- the client with this number, without what it owns
abbrev pub peer_of : Option Resident → Option Peer
peer_of None = None
peer_of (Some r) = Some r.peer

abbrev pub peer_at : ℕ → Desktop → Option Peer
peer_at c d = peer_of (client_at c d)

-- the bytes that wait for a client
abbrev pub unsent_of : Option Peer → Option (List ℕ)
unsent_of None = None
unsent_of (Some p) = Some p.unsent

abbrev pub status_of : Option Peer → Fed
status_of None = NoClient
status_of (Some p) = fed_of p.status

-- how many bytes a client's store has
abbrev pub store_size_of : ℕ → Option Peer → Option ℕ
store_size_of store None = None
store_size_of store (Some p) = option_map (λ s. length s.bytes) (store_at store p.stores)
