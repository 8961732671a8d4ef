-- Which toplevel a message begins to move with the pointer (xdg-shell.xml, xdg_toplevel.move).
use Rattle.std.specs.Prelude.{ℕ, ◌≡◌, ◌==◌, ◌&&◌, if◌then◌else◌, Option, Some, None}
use Rattle.spec_desktop.specs.Objects.{ById}
use Rattle.wl_requests.specs.declared.pointer_asked.PointerAsked.{PointerAsked}
use Rattle.wl_requests.specs.declared.pointer_asked.PointerAsked.TheVariants.{Nothing, NewPointer, Move as AsksMove}
use Rattle.wl_scene.specs.Focus.{target_of}
use Rattle.spec_desktop.specs.Pointer.{Pointer, Target}
use Rattle.spec_desktop.specs.Changing.{is_focus_in, is_serial}
use Rattle.spec_desktop.specs.Demand.{Demand, Move}
use Rattle.spec_desktop.specs.Desktop.{Desktop}
use Rattle.spec_desktop.specs.Stacked.{all_windows}
use Rattle.wl_desk.specs.declared.moves.Movable.{Movable}

-- the toplevel of which this is asked, by the serial of the press that began the present hold, where the focus is in its own tree
abbrev pub moved_by : Demand → ℕ → Desktop → Option Target
moved_by (Move surface serial) c d =
    if is_serial serial d.pointer.hold
    && is_focus_in c surface d.pointer.focus (all_windows d) then Some (record { client = c; surface = surface }) else None
moved_by demand c d = None

-- the pointer moves this toplevel from now on, if there is one
abbrev pub begun : Option Target → Pointer → Pointer
begun None p = p
begun (Some t) p = record p { move = Some t }

-- what is asked begins to move this toplevel; of what is refused nothing is said, since it ends the client
abbrev pub IsToMove : Option Demand → ℕ → Desktop → Option Target → Type 0
IsToMove None c d t = Unit {0}
IsToMove (Some demand) c d t = t ≡ moved_by demand c d

-- ---- the toplevel that may be moved

-- it is, where this is its number, and this the serial of the press
abbrev pub chosen : Option Movable → ℕ → ℕ → Option Target
chosen None number serial = None
chosen (Some m) number serial = if (m.serial == serial) && (m.number == number) then Some (target_of m.toplevel) else None

-- by what a message asks of the pointer
abbrev pub chosen_by : Option Movable → PointerAsked → Option Target
chosen_by movable Nothing = None
chosen_by movable (NewPointer id) = None
chosen_by movable (AsksMove number serial) = chosen movable number serial

-- This is the one of a client's toplevels that xdg_toplevel.move would begin to move, by the numbers of its surfaces.
abbrev pub IsMovable : ById ℕ → ℕ → Desktop → Option Movable → Type 0
IsMovable numbers c d movable =
    (surface number serial : ℕ) → numbers surface ≡ Some number → moved_by (Move surface serial) c d ≡ chosen movable number serial
