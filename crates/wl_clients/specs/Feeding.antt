-- What the calls of a desk make of the desktop, message by message.
use Rattle.std.specs.Prelude.{ℕ, zero, suc, ◌≡◌, ◌++◌, List, [], slice_index_or, Option, Some, None}
use Rattle.spec_desktop.specs.Peer.{IsIdle, ended, with_rest}
use Rattle.wl_client.specs.View.{ClientView}
use Rattle.spec_desktop.specs.declared.cause.Cause.{Cause}
use Rattle.spec_desktop.specs.declared.cause.Cause.TheVariants as cause
use Rattle.wl_client.specs.declared.served.Served.{Served}
use Rattle.wl_client.specs.declared.served.Served.TheVariants as served
use Rattle.spec_desktop.specs.Desktop.{Desktop, Resident, client_at, with_client}
use Rattle.spec_desktop.specs.Settling.{EndsAndSettles, becomes, unstruck}
use Rattle.spec_desktop.specs.Step.{with_peer}
use Rattle.wl_clients.specs.View.{DeskView}
use Rattle.spec_desktop.specs.declared.answers.Fed.{Fed}
use Rattle.spec_desktop.specs.declared.answers.Fed.TheVariants as fed

-- a piece is kept behind what came before, of a client that lives
abbrev pub kept_by : ℕ → List ℕ → Option Cause → Resident → Desktop → Desktop
kept_by c piece None r d = with_client c (Some (with_peer (with_rest (r.peer.rest ++ piece) r.peer) r)) d
kept_by c piece (Some cause) r d = d

abbrev pub kept_of : ℕ → List ℕ → Option Resident → Desktop → Desktop
kept_of c piece None d = d
kept_of c piece (Some r) d = kept_by c piece r.peer.status r d

abbrev pub kept_at : ℕ → List ℕ → Desktop → Desktop
kept_at c piece d = kept_of c piece (client_at c d) d

-- the same of what is kept of a client
abbrev pub kept_while : List ℕ → Option Cause → ClientView → ClientView
kept_while piece None v = record v { rest = v.rest ++ piece }
kept_while piece (Some cause) v = v

-- A client ends by this, where it lives, and the focus of the pointer is settled.
abbrev pub EndsBy : ℕ → Cause → Option Cause → Resident → Desktop → Desktop → Type 0
EndsBy c cause (Some was) r d e = e ≡ d
EndsBy c cause None r d e = EndsAndSettles (unstruck (becomes c r (ended cause r.peer) d)) e

abbrev pub EndsOf : ℕ → Cause → Option Resident → Desktop → Desktop → Type 0
EndsOf c cause None d e = e ≡ d
EndsOf c cause (Some r) d e = EndsBy c cause r.peer.status r d e

abbrev pub Ends : ℕ → Cause → Desktop → Desktop → Type 0
Ends c cause d e = EndsOf c cause (client_at c d) d e

-- a client that is there has no message to be taken
abbrev pub IsIdleOf : Option Resident → Type 0
IsIdleOf None = Unit {0}
IsIdleOf (Some r) = IsIdle r.peer

abbrev pub IsIdleIn : ℕ → Desktop → Type 0
IsIdleIn c d = IsIdleOf (client_at c d)

-- what became of a message that was taken, by how the client is then; out of memory is wl_display's error no_memory
abbrev pub served_of : Fed → Served
served_of (fed.Ended (cause.Protocol object code)) = served.Refused object code
served_of (fed.Ended cause.Memory) = served.Refused 1 2
served_of fed = served.Done

-- what came from a client and wasn't taken
abbrev pub rest_of : Option ClientView → List ℕ
rest_of None = []
rest_of (Some v) = v.rest

abbrev pub rest_in : ℕ → DeskView → List ℕ
rest_in zero v = []
rest_in (suc k) v = rest_of (slice_index_or v.clients k None)
