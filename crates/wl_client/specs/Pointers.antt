-- What the wl_pointers of a client are told (wayland.xml, wl_pointer).
use Rattle.std.specs.Prelude.{ℕ, Bool, true, false, ◌&&◌, if◌then◌else◌, List, [], ◌∷◌, flat_map, Option}
use Rattle.wl_wire.specs.Wire.{Word, Number}
use Rattle.wl_proto.specs.declared.interface.Interface.TheVariants.{WlPointer}
use Rattle.wl_proto.specs.Messages.{Message, says}
use Rattle.wl_shell.specs.Shell.{next_serial}
use Rattle.spec_desktop.specs.declared.cause.Cause.{Cause}
use Rattle.spec_desktop.specs.Peer.{Peer, QueuesTo}
use Rattle.spec_desktop.specs.Told.{Said, said}
use Rattle.wl_client.specs.declared.pointers.PointerEvent.{PointerEvent}
use Rattle.wl_client.specs.declared.pointers.PointerEvent.TheVariants.{Enter, Leave, Motion, Button}

-- each but a motion has a serial
abbrev pub has_serial : PointerEvent → Bool
has_serial (Enter surface x y) = true
has_serial (Leave surface) = true
has_serial (Motion time x y) = false
has_serial (Button time button pressed) = true

-- what it says, with this serial; of a button 1 for a press, 0 for a release
abbrev pub pointer_message : PointerEvent → ℕ → Message
pointer_message (Enter surface x y) serial = says WlPointer 0 (Word serial ∷ Word surface ∷ Number x ∷ Number y ∷ [])
pointer_message (Leave surface) serial = says WlPointer 1 (Word serial ∷ Word surface ∷ [])
pointer_message (Motion time x y) serial = says WlPointer 2 (Word time ∷ Number x ∷ Number y ∷ [])
pointer_message (Button time button pressed) serial =
    says WlPointer 3 (Word serial ∷ Word time ∷ Word button ∷ Word (if pressed then 1 else 0) ∷ [])

-- one event of each of these wl_pointers, in this order, all with one serial
abbrev pub pointers_told : PointerEvent → ℕ → List ℕ → List Said
pointers_told event serial pointers = flat_map (λ pointer. said pointer (pointer_message event serial) ∷ []) pointers

abbrev pub has_any : List ℕ → Bool
has_any [] = false
has_any (pointer ∷ pointers) = true

-- the serial that is next after it: one is drawn where there is a wl_pointer, and the event has one
abbrev pub serial_after : PointerEvent → List ℕ → ℕ → ℕ
serial_after event pointers serial = if has_serial event && has_any pointers then next_serial serial else serial

-- The wl_pointers of a client are told it in turn, until one event isn't queued, and why.
abbrev pub TellsPointers : PointerEvent → List ℕ → Peer → Peer → Option Cause → Type 0
TellsPointers event pointers old new why =
    QueuesTo (pointers_told event old.serial pointers) (record old { serial = serial_after event pointers old.serial }) new why
