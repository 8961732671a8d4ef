-- Which toplevels stand wherever nobody points, with popups: just those that are mapped. A mapped surface shows a
-- buffer, be it a toplevel's or a popup's. Each step keeps it, and each message by itself.
use Rattle.std.specs.Prelude.{ℕ, ◌≡◌, Some, List}
use Rattle.spec_desktop.specs.declared.cause.Cause.{Cause}
use Rattle.spec_desktop.specs.Peer.{ended, with_rest}
use Rattle.spec_desktop.specs.Told.{Output}
use Rattle.spec_desktop.specs.declared.answers.Done.{Done}
use Rattle.spec_desktop.specs.Act.{Act}
use Rattle.spec_desktop.specs.Desktop.{Desktop, Resident, client_at, empty, with_client}
use Rattle.spec_desktop.specs.Framing.{FramesToldAt}
use Rattle.spec_desktop.specs.Happens.{Happens, Serves}
use Rattle.spec_desktop.specs.Settling.{EndsAndSettles, becomes, unstruck}
use Rattle.spec_desktop.specs.Step.{with_peer}
use Rattle.law_desktop.specs.Acts.{LeavesPointer}
use Rattle.law_desktop.specs.InOrder.{InOrder}
use Rattle.law_desktop.specs.Shown.{ShownStand}

-- On a desktop without clients none stands, and none is mapped.
abbrev pub EmptyIsShown : Type 0
EmptyIsShown = (output : Output) → ShownStand (empty output)

-- Whatever happens that leaves the pointer alone keeps it.
abbrev pub ShownStays : Type 0
ShownStays =
    (act : Act) (done : Done) (d e : Desktop) → LeavesPointer act → InOrder d → ShownStand d → Happens act done d e
    → ShownStand e

-- So does one message of a client.
abbrev pub MessagesKeepShown : Type 0
MessagesKeepShown = (c : ℕ) (d e : Desktop) → InOrder d → ShownStand d → Serves c d e → ShownStand e

-- So does what is kept of the stream of a client that is there, before its messages are taken.
abbrev pub PiecesKeepShown : Type 0
PiecesKeepShown =
    (c : ℕ) (r : Resident) (bytes : List ℕ) (d : Desktop) → InOrder d → ShownStand d → client_at c d ≡ Some r
    → ShownStand (with_client c (Some (with_peer (with_rest bytes r.peer) r)) d)

-- So does the end of a client.
abbrev pub EndsKeepShown : Type 0
EndsKeepShown =
    (c : ℕ) (r : Resident) (cause : Cause) (d e : Desktop) → InOrder d → ShownStand d → client_at c d ≡ Some r
    → EndsAndSettles (unstruck (becomes c r (ended cause r.peer) d)) e → ShownStand e

-- So does a frame that one client is told of.
abbrev pub FramesKeepShown : Type 0
FramesKeepShown =
    (time c : ℕ) (d e : Desktop) → InOrder d → ShownStand d → FramesToldAt time c (client_at c d) d e → ShownStand e
