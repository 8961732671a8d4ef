-- What happens, one message at a time: each happening leads through the desktops of its own change, of each end and of each settling.
use Rattle.std.specs.Prelude.{ℕ, ◌≡◌, ◌⊎◌, Option, Some, None, List, [], ◌∷◌, ◌++◌, replicate}
use Rattle.spec_desktop.specs.declared.cause.Cause.{Cause}
use Rattle.spec_desktop.specs.declared.cause.Cause.TheVariants as cause
use Rattle.spec_desktop.specs.Peer.{IsIdle, ended, with_rest}
use Rattle.spec_desktop.specs.declared.answers.Done.{Done}
use Rattle.spec_desktop.specs.Desktop.{Desktop, Resident, client_at, with_client}
use Rattle.spec_desktop.specs.Settling.{becomes, unstruck}
use Rattle.spec_desktop.specs.Step.{with_peer}
use Rattle.spec_desktop.specs.Act.{Act}
use Rattle.spec_desktop.specs.Through.{HappensThrough, ServesThrough, settling_through}

pub data Happening : Type 0 where
  -- bytes of a client that lives come, and are kept
  Receive : ℕ → List ℕ → Happening
  -- the first whole message of what has come of a client is taken
  Message : ℕ → Happening
  -- memory runs out before the next message of a client is taken
  Starve : ℕ → Happening
  -- whatever else happens, with its answer: all but a piece of a client's stream
  Single : Act → Done → Happening

abbrev pub ReceivesAt : ℕ → List ℕ → Option Resident → Desktop → List Desktop → Desktop → Type 0
ReceivesAt c piece None d path new = ⊥
ReceivesAt c piece (Some r) d path new =
    (r.peer.status ≡ None) × (new ≡ with_client c (Some (with_peer (with_rest (r.peer.rest ++ piece) r.peer) r)) d) × (path ≡ new ∷ [])

abbrev pub StarvesAt : ℕ → Option Resident → Desktop → List Desktop → Desktop → Type 0
StarvesAt c None d path new = ⊥
StarvesAt c (Some r) d path new = (r.peer.status ≡ None) × settling_through path new (unstruck (becomes c r (ended cause.Memory r.peer) d))

-- One happening leads from a desktop through these to the last.
abbrev pub Leads : Happening → Desktop → List Desktop → Desktop → Type 0
Leads (Receive c piece) d path new = ReceivesAt c piece (client_at c d) d path new
Leads (Message c) d path new = ServesThrough c d path new
Leads (Starve c) d path new = StarvesAt c (client_at c d) d path new
Leads (Single act done) d path new = HappensThrough act done d path new

-- happenings one after another
abbrev pub LeadsAll : List Happening → Desktop → Desktop → Type 0
LeadsAll [] d new = new ≡ d
LeadsAll (h ∷ hs) d new = (path : List Desktop) × (mid : Desktop) × Leads h d path mid × LeadsAll hs mid new

-- ---- a piece of a client's stream

-- a client is there, and has no message left to be taken
abbrev pub HasTakenAllAt : Option Resident → Type 0
HasTakenAllAt None = ⊥
HasTakenAllAt (Some r) = IsIdle r.peer

abbrev pub HasTakenAll : ℕ → Desktop → Type 0
HasTakenAll c d = HasTakenAllAt (client_at c d)

-- its bytes as they come, and then so many messages of its client
abbrev pub bytes_then_messages : ℕ → List ℕ → ℕ → List Happening
bytes_then_messages c piece n = Receive c piece ∷ replicate n (Message c)

-- Of a client that lives a piece is its bytes and then the messages that they complete, so that none is left at last; or so many of these
-- until memory runs out. Of one that has ended, or isn't there, it is nothing.
abbrev pub ArePieceBy : ℕ → List ℕ → Option Cause → List Happening → Desktop → Type 0
ArePieceBy c piece (Some cause) parts last = parts ≡ []
ArePieceBy c piece None parts last =
    (n : ℕ) × (((parts ≡ bytes_then_messages c piece n) × HasTakenAll c last) ⊎ (parts ≡ bytes_then_messages c piece n ++ Starve c ∷ []))

abbrev pub ArePieceAt : ℕ → List ℕ → Option Resident → List Happening → Desktop → Type 0
ArePieceAt c piece None parts last = parts ≡ []
ArePieceAt c piece (Some r) parts last = ArePieceBy c piece r.peer.status parts last

abbrev pub ArePiece : ℕ → List ℕ → Desktop → List Happening → Desktop → Type 0
ArePiece c piece first parts last = ArePieceAt c piece (client_at c first) parts last
