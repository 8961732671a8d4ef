-- What each client owns is in order wherever nobody points, with popups: each step keeps it.
use Rattle.std.specs.Prelude.{ℕ, ◌≡◌, ◌≤◌, ◌==◌, true, false, Ok, Some, None, List, []}
use Rattle.std.specs.List.{list_any}
use Rattle.spec_desktop.specs.declared.cause.Cause.{Cause}
use Rattle.spec_desktop.specs.Peer.{Peer, counted, ended, with_rest}
use Rattle.spec_desktop.specs.Told.{Output}
use Rattle.wl_shell.specs.Popups.{popups_of}
use Rattle.spec_desktop.specs.declared.answers.Done.{Done}
use Rattle.spec_desktop.specs.Act.{Act}
use Rattle.spec_desktop.specs.Changing.{changed_for}
use Rattle.spec_desktop.specs.Demand.{Demand}
use Rattle.spec_desktop.specs.Demanding.{judge_all}
use Rattle.spec_desktop.specs.Desktop.{Desktop, Resident, client_at, empty, with_client}
use Rattle.spec_desktop.specs.Framing.{FramesToldAt}
use Rattle.spec_desktop.specs.Happens.{Happens, Serves}
use Rattle.spec_desktop.specs.Replies.{popups_done}
use Rattle.spec_desktop.specs.Settling.{EndsAndSettles, becomes, unstruck}
use Rattle.spec_desktop.specs.Step.{with_peer}
use Rattle.law_desktop.specs.Apart.{AreApartBy}
use Rattle.law_desktop.specs.Soundness.{IsSound}
use Rattle.law_desktop.specs.Acts.{LeavesPointer}
use Rattle.law_desktop.specs.InOrder.{AreRising, InOrder, OwnsInOrder, may_dismiss}

-- ---- what a desktop in order has

-- A client that lives owns what it owns in order.
abbrev pub ClientsAreInOrder : Type 0
ClientsAreInOrder = (d : Desktop) (c : ℕ) (r : Resident) → InOrder d → client_at c d ≡ Some r → r.peer.status ≡ None → OwnsInOrder r

-- It is sound, so that no surface has two windows.
abbrev pub InOrderIsSound : Type 0
InOrderIsSound = (d : Desktop) → InOrder d → IsSound d

-- No two popups of a client have one number, and none has one past that of the client's last request.
abbrev pub PopupsAreNumbered : Type 0
PopupsAreNumbered =
    (r : Resident) → OwnsInOrder r
    → AreApartBy (λ number p. p.popup.number == number) (popups_of r.owned.shell)
    × ((number : ℕ) → list_any (λ p. p.popup.number == number) (popups_of r.owned.shell) ≡ true → number ≤ r.peer.requests)

-- In order of creation their numbers rise.
abbrev pub PopupsRise : Type 0
PopupsRise = (r : Resident) → OwnsInOrder r → AreRising (popups_of r.owned.shell)

-- ---- what keeps a desktop in order

-- A desktop without clients is in order.
abbrev pub EmptyIsInOrder : Type 0
EmptyIsInOrder = (output : Output) → InOrder (empty output)

-- Whatever happens that leaves the pointer alone.
abbrev pub InOrderStays : Type 0
InOrderStays =
    (act : Act) (done : Done) (d e : Desktop) → LeavesPointer act → InOrder d → Happens act done d e → InOrder e

-- One message of a client.
abbrev pub MessagesKeepInOrder : Type 0
MessagesKeepInOrder = (c : ℕ) (d e : Desktop) → InOrder d → Serves c d e → InOrder e

-- What is kept of the stream of a client that is there, before its messages are taken.
abbrev pub PiecesKeepInOrder : Type 0
PiecesKeepInOrder =
    (c : ℕ) (r : Resident) (bytes : List ℕ) (d : Desktop) → InOrder d → client_at c d ≡ Some r
    → InOrder (with_client c (Some (with_peer (with_rest bytes r.peer) r)) d)

-- The end of a client.
abbrev pub EndsKeepInOrder : Type 0
EndsKeepInOrder =
    (c : ℕ) (r : Resident) (cause : Cause) (d e : Desktop) → InOrder d → client_at c d ≡ Some r
    → EndsAndSettles (unstruck (becomes c r (ended cause r.peer) d)) e → InOrder e

-- One client is told of a frame.
abbrev pub FramesKeepInOrder : Type 0
FramesKeepInOrder = (time c : ℕ) (d e : Desktop) → InOrder d → FramesToldAt time c (client_at c d) d e → InOrder e

-- ---- what keeps a client in order

-- Another peer with the same objects and buffers, and no fewer requests.
abbrev pub PeersKeepInOrder : Type 0
PeersKeepInOrder =
    (r : Resident) (p : Peer) → p.objects ≡ r.peer.objects → p.buffers ≡ r.peer.buffers → r.peer.requests ≤ p.requests → OwnsInOrder r
    → OwnsInOrder (with_peer p r)

-- What an accepted message demands, done once its request is counted and its bytes are taken.
abbrev pub DemandsKeepInOrder : Type 0
DemandsKeepInOrder =
    (c : ℕ) (r : Resident) (rest : List ℕ) (object opcode : ℕ) (body : List ℕ) (demand : Demand) (d : Desktop)
    → OwnsInOrder r → judge_all r object opcode body ≡ Ok demand
    → OwnsInOrder (changed_for c demand (with_peer (counted (with_rest rest r.peer)) r) d)

-- ---- popups that are dismissed

-- But for these demands a client is told of no popup that is done.
abbrev pub OthersDismissNone : Type 0
OthersDismissNone =
    (c : ℕ) (demand : Demand) (r : Resident) (d : Desktop) → may_dismiss demand ≡ false → popups_done r (changed_for c demand r d) ≡ []
