-- The focus of the pointer after each step (wayland.xml, wl_pointer.enter and leave).
use Rattle.std.specs.Prelude.{ℕ, ◌≡◌, ◌≤◌, List, length, is_some, true, Some}
use Rattle.spec_desktop.specs.Pointer.{Pointer, settled}
use Rattle.spec_desktop.specs.PointerActions.{PointerInput, actions}
use Rattle.spec_desktop.specs.Stacking.{nothing_owned}
use Rattle.spec_desktop.specs.Windows.{Window}
use Rattle.spec_desktop.specs.declared.answers.Done.{Done}
use Rattle.spec_desktop.specs.Act.{Act}
use Rattle.spec_desktop.specs.Desktop.{Desktop, Resident, client_at}
use Rattle.spec_desktop.specs.Happens.{Happens}
use Rattle.spec_desktop.specs.Settling.{Midstep, Settles}
use Rattle.spec_desktop.specs.Stacked.{all_windows}

-- The focus is what the pointer hits; while a button is down it is the surface that had it, as long as that has a window.
abbrev pub IsSettled : Desktop → Type 0
IsSettled d = d.pointer.focus ≡ settled d.pointer (all_windows d)

-- a client that ended owns nothing
abbrev pub EndedAreBare : Desktop → Type 0
EndedAreBare d = (c : ℕ) (r : Resident) → client_at c d ≡ Some r → is_some r.peer.status ≡ true → r.owned ≡ nothing_owned

-- Whatever happens leaves the focus settled: no client that is to end is left, of 32, when it was settled for the last time.
abbrev pub FocusIsSettled : Type 0
FocusIsSettled =
    (act : Act) (done : Done) (old new : Desktop) → length old.clients ≤ 32 → EndedAreBare old → IsSettled old
    → Happens act done old new → IsSettled new

-- To settle the focus shows nothing new: the windows stay, and so do the toplevels that stand.
abbrev pub SettlingShowsNothing : Type 0
SettlingShowsNothing =
    (old new : Midstep) → Settles old new
    → (all_windows new.desktop ≡ all_windows old.desktop) × (new.desktop.standing ≡ old.desktop.standing)

-- Whatever comes in, the pointer does three things at most.
abbrev pub ActsAreFew : Type 0
ActsAreFew = (input : PointerInput) (p : Pointer) (ws : List Window) → length (actions input p ws) ≤ 3
