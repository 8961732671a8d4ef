-- Where nobody points nobody does after what leaves the pointer alone, and no popup gets a grab.
use Rattle.std.specs.Prelude.{ℕ, ◌≡◌, ◌==◌, Some, List, false}
use Rattle.spec_desktop.specs.declared.cause.Cause.{Cause}
use Rattle.spec_desktop.specs.Peer.{Peer, ended, with_rest}
use Rattle.spec_desktop.specs.Told.{Output}
use Rattle.wl_shell.specs.Popups.{dismissing}
use Rattle.spec_desktop.specs.declared.answers.Done.{Done}
use Rattle.spec_desktop.specs.Act.{Act}
use Rattle.spec_desktop.specs.Changing.{changed_for, grab_allowed}
use Rattle.spec_desktop.specs.Demand.{Grab}
use Rattle.spec_desktop.specs.Desktop.{Desktop, Resident, client_at, empty, with_client}
use Rattle.spec_desktop.specs.Framing.{FramesToldAt}
use Rattle.spec_desktop.specs.Happens.{Happens, Serves}
use Rattle.spec_desktop.specs.Settling.{EndsAndSettles, becomes, unstruck}
use Rattle.spec_desktop.specs.Step.{with_peer, with_shell}
use Rattle.law_desktop.specs.Acts.{LeavesPointer}
use Rattle.law_desktop.specs.NobodyPoints.{NobodyPoints}

-- ---- what keeps it so

-- On a desktop without clients nobody points.
abbrev pub EmptyIsUnpointed : Type 0
EmptyIsUnpointed = (output : Output) → NobodyPoints (empty output)

-- Nor does anybody after whatever leaves the pointer alone.
abbrev pub UnpointedStays : Type 0
UnpointedStays =
    (act : Act) (done : Done) (d e : Desktop) → LeavesPointer act → NobodyPoints d → Happens act done d e
    → NobodyPoints e

-- Nor after one message of a client.
abbrev pub MessagesKeepUnpointed : Type 0
MessagesKeepUnpointed = (c : ℕ) (d e : Desktop) → NobodyPoints d → Serves c d e → NobodyPoints e

-- Nor where what came of a client's stream is kept, before its messages are taken.
abbrev pub PiecesKeepUnpointed : Type 0
PiecesKeepUnpointed =
    (c : ℕ) (r : Resident) (bytes : List ℕ) (d : Desktop) → NobodyPoints d → client_at c d ≡ Some r
    → NobodyPoints (with_client c (Some (with_peer (with_rest bytes r.peer) r)) d)

-- Nor where a client ended.
abbrev pub EndsKeepUnpointed : Type 0
EndsKeepUnpointed =
    (c : ℕ) (r : Resident) (cause : Cause) (d e : Desktop) → NobodyPoints d → client_at c d ≡ Some r
    → EndsAndSettles (unstruck (becomes c r (ended cause r.peer) d)) e → NobodyPoints e

-- Nor where one client was told of a frame.
abbrev pub FramesKeepUnpointed : Type 0
FramesKeepUnpointed = (time c : ℕ) (d e : Desktop) → NobodyPoints d → FramesToldAt time c (client_at c d) d e → NobodyPoints e

-- ---- grabs

-- No client may have a grab, whatever became of its peer: it asks by no serial of a press or of a release.
abbrev pub GrabsAreRefused : Type 0
GrabsAreRefused =
    (c xdg serial : ℕ) (r : Resident) (p : Peer) (d : Desktop) → NobodyPoints d → client_at c d ≡ Some r
    → grab_allowed c xdg serial (with_peer p r) d ≡ false

-- A popup that asks for one is dismissed, with its descendants (xdg-shell.xml, xdg_popup.grab).
abbrev pub GrabsDismiss : Type 0
GrabsDismiss =
    (c xdg serial : ℕ) (r : Resident) (p : Peer) (d : Desktop) → NobodyPoints d → client_at c d ≡ Some r
    → changed_for c (Grab xdg serial) (with_peer p r) d
    ≡ with_shell (dismissing (λ popped. popped.xdg.id == xdg) r.owned.shell) (with_peer p r)
