-- What each client owns is in order, with popups and grabs: each step keeps it.
use Rattle.std.specs.Prelude.{ℕ, ◌≡◌, ◌≤◌, Bool, Ok, Some, List}
use Rattle.spec_desktop.specs.declared.cause.Cause.{Cause}
use Rattle.spec_desktop.specs.Peer.{Peer, counted, ended, with_rest}
use Rattle.spec_desktop.specs.Told.{Output}
use Rattle.wl_shell.specs.InOrder.{HasOrder}
use Rattle.wl_shell.specs.Popups.{Popped, dismissing}
use Rattle.spec_desktop.specs.PointerActions.{Dismiss}
use Rattle.spec_desktop.specs.Stacking.{moved_to, raised}
use Rattle.spec_desktop.specs.Windows.{Place, Window}
use Rattle.spec_desktop.specs.declared.answers.Done.{Done}
use Rattle.spec_desktop.specs.Act.{Act}
use Rattle.spec_desktop.specs.Changing.{changed_for}
use Rattle.spec_desktop.specs.Demand.{Demand}
use Rattle.spec_desktop.specs.Demanding.{judge_all}
use Rattle.spec_desktop.specs.Desktop.{Desktop, Resident, client_at, empty, unpointed, with_client}
use Rattle.spec_desktop.specs.Framing.{FramesToldAt}
use Rattle.spec_desktop.specs.Happens.{Happens, Serves}
use Rattle.spec_desktop.specs.Settling.{Applies, EndsAndSettles, Midstep, becomes, unstruck}
use Rattle.spec_desktop.specs.Step.{with_peer, with_shell}
use Rattle.law_desktop.specs.Acts.{LeavesPointer}
use Rattle.law_desktop.specs.Ordered.{Ordered, OwnsOrdered}

-- ---- what is known of them

-- The popups of a client have the order that the shell asks for.
abbrev pub OrderedHasOrder : Type 0
OrderedHasOrder = (r : Resident) → OwnsOrdered r → HasOrder r.owned.shell

-- ---- what keeps a desktop so

-- A desktop without clients is so.
abbrev pub EmptyIsOrdered : Type 0
EmptyIsOrdered = (output : Output) → Ordered (empty output)

-- Whatever happens that leaves the pointer alone.
abbrev pub OrderedStays : Type 0
OrderedStays = (act : Act) (done : Done) (d e : Desktop) → LeavesPointer act → Ordered d → Happens act done d e → Ordered e

-- One message of a client.
abbrev pub MessagesKeepOrdered : Type 0
MessagesKeepOrdered = (c : ℕ) (d e : Desktop) → Ordered d → Serves c d e → Ordered e

-- What is kept of the stream of a client that is there, before its messages are taken.
abbrev pub PiecesKeepOrdered : Type 0
PiecesKeepOrdered =
    (c : ℕ) (r : Resident) (bytes : List ℕ) (d : Desktop) → Ordered d → client_at c d ≡ Some r
    → Ordered (with_client c (Some (with_peer (with_rest bytes r.peer) r)) d)

-- The end of a client.
abbrev pub EndsKeepOrdered : Type 0
EndsKeepOrdered =
    (c : ℕ) (r : Resident) (cause : Cause) (d e : Desktop) → Ordered d → client_at c d ≡ Some r
    → EndsAndSettles (unstruck (becomes c r (ended cause r.peer) d)) e → Ordered e

-- One client is told of a frame.
abbrev pub FramesKeepOrdered : Type 0
FramesKeepOrdered = (time c : ℕ) (d e : Desktop) → Ordered d → FramesToldAt time c (client_at c d) d e → Ordered e

-- A toplevel that is raised or moved.
abbrev pub MovesKeepOrdered : Type 0
MovesKeepOrdered =
    (c surface : ℕ) (place : Place) (d : Desktop) → Ordered d
    → Ordered (record d { standing = raised c surface d.standing })
    × Ordered (record d { standing = moved_to c surface place d.standing })

-- ---- what keeps a client so

-- Another peer with the same objects and buffers, and no fewer requests.
abbrev pub PeersKeepOrdered : Type 0
PeersKeepOrdered =
    (r : Resident) (p : Peer) → p.objects ≡ r.peer.objects → p.buffers ≡ r.peer.buffers → r.peer.requests ≤ p.requests → OwnsOrdered r
    → OwnsOrdered (with_peer p r)

-- What an accepted message demands, done once its request is counted and its bytes are taken.
abbrev pub DemandsKeepOrdered : Type 0
DemandsKeepOrdered =
    (c : ℕ) (r : Resident) (rest : List ℕ) (object opcode : ℕ) (body : List ℕ) (demand : Demand) (d : Desktop) → OwnsOrdered r
    → judge_all r object opcode body ≡ Ok demand
    → OwnsOrdered (changed_for c demand (with_peer (counted (with_rest rest r.peer)) r) d)

-- Popups that are dismissed, with what descends from them (xdg-shell.xml, xdg_popup.popup_done).
abbrev pub DismissalsKeepOrdered : Type 0
DismissalsKeepOrdered =
    (is : Popped → Bool) (r : Resident) → OwnsOrdered r → OwnsOrdered (with_shell (dismissing is r.owned.shell) r)

-- ---- a press that dismisses

-- A client whose popups with a grab are dismissed, and which is told of them, with the pointer put aside (xdg-shell.xml, xdg_popup.grab).
abbrev pub PressesKeepOrdered : Type 0
PressesKeepOrdered =
    (windows : List Window) (c : ℕ) (old new : Midstep) → Ordered (unpointed old.desktop) → Applies windows (Dismiss c) old new
    → Ordered (unpointed new.desktop)
