-- The plain desktop: what a compositor holds of its clients and of its screen, whatever a program keeps.
use Rattle.std.specs.Prelude.{ℕ, suc, zero, ◌==◌, filter, List, [], ◌∷◌, Option, Some, None, replicate}
use Rattle.spec_desktop.specs.Told.{Output}
use Rattle.spec_desktop.specs.declared.cause.Cause.{Cause}
use Rattle.spec_desktop.specs.Peer.{Peer, newcomer}
use Rattle.wl_surface.specs.Waiting.{Callback}
use Rattle.spec_desktop.specs.Pointer.{Pointer, first_pointer}
use Rattle.spec_desktop.specs.Stacking.{Owned, Standing, nothing_owned, without_client}
use Rattle.spec_desktop.specs.Windows.{Window}

-- a wl_subsurface by its id: the number of its link, and its surface, while that is there
pub record Subsurface : Type 0 where
  pub id : ℕ
  pub link : ℕ
  pub surface : Option ℕ

-- One client: its streams and tables; its surfaces and xdg_surfaces; its wl_subsurfaces; its frame callbacks in the order of their
-- requests, and its wl_pointers in rising id; and the serials of the latest press and of the latest release that it was told of.
pub record Resident : Type 0 where
  pub peer : Peer
  pub owned : Owned
  pub subsurfaces : List Subsurface
  pub callbacks : List Callback
  pub pointers : List ℕ
  pub press : Option ℕ
  pub release : Option ℕ

-- The output; the clients by their numbers, 1 to 32, the first place being that of number 1; the mapped toplevels from bottom to top; how
-- many mappings there were; and the pointer.
pub record Desktop : Type 0 where
  pub output : Output
  pub clients : List (Option Resident)
  pub standing : List Standing
  pub mappings : ℕ
  pub pointer : Pointer

abbrev pub resident_of : Peer → Resident
resident_of peer =
    record {
      peer = peer;
      owned = nothing_owned;
      subsurfaces = [];
      callbacks = [];
      pointers = [];
      press = None;
      release = None;
    }

-- a client that has just connected
abbrev pub arrival : Output → Resident
arrival output = resident_of (newcomer output)

abbrev pub empty : Output → Desktop
empty output = record { output = output; clients = replicate 32 None; standing = []; mappings = 0; pointer = first_pointer }

-- the desktop where nobody has pointed yet
abbrev pub unpointed : Desktop → Desktop
unpointed d = record d { pointer = first_pointer }

abbrev pub place : List (Option Resident) → ℕ → Option Resident
place [] k = None
place (r ∷ rs) zero = r
place (r ∷ rs) (suc k) = place rs k

abbrev pub with_place : ℕ → Option Resident → List (Option Resident) → List (Option Resident)
with_place k r [] = []
with_place zero r (old ∷ rs) = r ∷ rs
with_place (suc k) r (old ∷ rs) = old ∷ with_place k r rs

abbrev pub client_in : List (Option Resident) → ℕ → Option Resident
client_in clients zero = None
client_in clients (suc k) = place clients k

-- the client with this number
abbrev pub client_at : ℕ → Desktop → Option Resident
client_at c d = client_in d.clients c

abbrev pub with_number : ℕ → Option Resident → List (Option Resident) → List (Option Resident)
with_number zero r clients = clients
with_number (suc k) r clients = with_place k r clients

-- the desktop with another client of this number
abbrev pub with_client : ℕ → Option Resident → Desktop → Desktop
with_client c r d = record d { clients = with_number c r d.clients }

-- What is told to a client leaves it so. One that ended has no surfaces and no windows.
abbrev pub become_by : Option Cause → ℕ → Resident → Peer → Desktop → Desktop
become_by None c r q d = with_client c (Some (record r { peer = q })) d
become_by (Some cause) c r q d = record d {
  clients = with_number c (Some (resident_of q)) d.clients;
  standing = without_client c d.standing;
}

abbrev pub become : ℕ → Resident → Peer → Desktop → Desktop
become c r q d = become_by q.status c r q d

-- what a client owns
abbrev pub owned_of : Option Resident → Owned
owned_of None = nothing_owned
owned_of (Some r) = r.owned

abbrev pub owned_in : Desktop → ℕ → Owned
owned_in d c = owned_of (client_at c d)

-- a way of showing a desktop: which windows it has, from bottom to top
abbrev pub Showing : Type 0
Showing = Desktop → List Window

-- why a client ended, if it is there and did
abbrev pub status_of : Option Resident → Option Cause
status_of None = None
status_of (Some r) = r.peer.status

abbrev pub status_in : ℕ → Desktop → Option Cause
status_in c d = status_of (client_at c d)

-- the toplevels of a client, from the bottom
abbrev pub toplevels_of : ℕ → Desktop → List Standing
toplevels_of c d = filter (λ s. s.client == c) d.standing
