-- What a step makes of the pointer that was put aside before it: `unpointed d` is the desktop where nobody has pointed yet.
use Rattle.std.specs.Prelude.{ℕ, ◌≡◌, ◌-◌, false, Option, Some, None, Result, Ok, Err, List, take, drop}
use Rattle.wl_wire.specs.Wire.{split_of}
use Rattle.wl_wire.specs.declared.header.Split.{Split}
use Rattle.wl_wire.specs.declared.header.Split.TheVariants.{Message as Whole, More, Bad}
use Rattle.spec_desktop.specs.declared.cause.Cause.{Cause}
use Rattle.spec_desktop.specs.declared.refusals.Refusal.{Refusal}
use Rattle.spec_desktop.specs.Pointer.{Pointer}
use Rattle.spec_desktop.specs.Stacking.{Standing}
use Rattle.spec_desktop.specs.Changing.{has_focus, kept_move, moving_from}
use Rattle.spec_desktop.specs.Demand.{Demand, GetPointer, Move}
use Rattle.spec_desktop.specs.Demanding.{judge_all}
use Rattle.spec_desktop.specs.Desktop.{Desktop, Resident, client_at, status_in}
use Rattle.spec_desktop.specs.Settling.{pointer_without}
use Rattle.spec_desktop.specs.Stacked.{all_windows}

-- the desktop with this pointer
abbrev pub pointed : Pointer → Desktop → Desktop
pointed p d = record d { pointer = p }

-- what is moved stands
abbrev pub MovedStands : Desktop → Type 0
MovedStands d = kept_move d.pointer.move d.standing ≡ d.pointer.move

-- ---- what a message asks

abbrev pub asked_of : Result Demand Refusal → Option Demand
asked_of (Ok demand) = Some demand
asked_of (Err refusal) = None

abbrev pub asked_first : Split → Resident → Option Demand
asked_first (Whole object opcode size) r = asked_of (judge_all r object opcode (take (size - 8) (drop 8 r.peer.rest)))
asked_first Bad r = None
asked_first More r = None

abbrev pub asked_by : Option Resident → Option Demand
asked_by None = None
asked_by (Some r) = asked_first (split_of r.peer.rest) r

-- what the first whole message that has come of a client asks, if it isn't refused
abbrev pub asked : ℕ → Desktop → Option Demand
asked c d = asked_by (client_at c d)

-- It isn't wl_seat.get_pointer of the client that has the focus: that one is told of the focus.
abbrev pub AsksNoFocus : ℕ → Desktop → Type 0
AsksNoFocus c d = (id version : ℕ) → asked c d ≡ Some (GetPointer id version) → has_focus c d.pointer.focus ≡ false

-- ---- the pointer after a message

-- it may begin to move a toplevel
abbrev pub pointer_for : Demand → ℕ → Desktop → Pointer
pointer_for (Move surface serial) c d = moving_from c surface serial (all_windows d) d.pointer
pointer_for demand c d = d.pointer

abbrev pub pointer_asked : Option Demand → ℕ → Desktop → Pointer
pointer_asked None c d = d.pointer
pointer_asked (Some demand) c d = pointer_for demand c d

-- it leaves a client that ended
abbrev pub pointer_if : Option Cause → ℕ → Pointer → Pointer
pointer_if None c p = p
pointer_if (Some cause) c p = pointer_without c p

-- what it moves is one that stands
abbrev pub keeping : List Standing → Pointer → Pointer
keeping standing p = record p { move = kept_move p.move standing }

-- The pointer of d after a message of this client that led, with the pointer put aside, to e.
abbrev pub pointer_after : ℕ → Desktop → Desktop → Pointer
pointer_after c d e = keeping e.standing (pointer_if (status_in c e) c (pointer_asked (asked c d) c d))

abbrev pub put_back : ℕ → Desktop → Desktop → Desktop
put_back c d e = pointed (pointer_after c d e) e
