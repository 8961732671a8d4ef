-- What a step of one client leaves of the others.
use Rattle.std.specs.Prelude.{ℕ, ℤ, ◌≡◌, ◌≢◌, ◌-◌, true, if◌then◌else◌, Option, Some, None, Result, Ok, Err, List, [], ◌∷◌, ◌++◌, drop}
use Rattle.std.specs.Prelude.{flat_map, take, ◌⊎◌}
use Rattle.wl_wire.specs.Wire.{Word, Number, split_of}
use Rattle.wl_wire.specs.declared.header.Split.{Split}
use Rattle.wl_wire.specs.declared.header.Split.TheVariants.{Message as Whole, More, Bad}
use Rattle.wl_proto.specs.declared.interface.Interface.TheVariants.{WlPointer}
use Rattle.wl_proto.specs.Messages.{says}
use Rattle.spec_desktop.specs.declared.cause.Cause.{Cause}
use Rattle.spec_desktop.specs.declared.cause.Cause.TheVariants.{Memory, Slow}
use Rattle.spec_desktop.specs.declared.refusals.ErrorCode.TheVariants.{InvalidMethod}
use Rattle.spec_desktop.specs.declared.refusals.Refusal.{Refusal}
use Rattle.spec_desktop.specs.Peer.{Errs, Peer, ended, has_room}
use Rattle.spec_desktop.specs.Told.{Said, display_error, said, said_bytes}
use Rattle.wl_shell.specs.Popups.{is_among}
use Rattle.wl_shell.specs.Shell.{next_serial}
use Rattle.spec_desktop.specs.Stacking.{Standing}
use Rattle.spec_desktop.specs.declared.answers.Done.{Done}
use Rattle.spec_desktop.specs.declared.answers.Done.TheVariants as gave
use Rattle.spec_desktop.specs.Demand.{Demand}
use Rattle.spec_desktop.specs.Demanding.{judge_all}
use Rattle.spec_desktop.specs.Desktop.{Desktop, Resident, client_at, resident_of, toplevels_of}
use Rattle.spec_desktop.specs.Pointing.{has_pointers}
use Rattle.spec_desktop.specs.Step.{with_peer}
use Rattle.spec_desktop.specs.Act.{Act, Connect, Feed, Store, Leave, Tick, Send, Close, Motion, Button}
use Rattle.spec_desktop.specs.Happens.{Happens, Reaches, Serves, StopsAt}

-- wl_pointer.enter and leave, of a surface, with a serial (wayland.xml, wl_pointer)
abbrev pub IsEnter : ℕ → ℕ → Said → Type 0
IsEnter pointer serial event =
    (surface : ℕ) × (x : ℤ) × (y : ℤ) × (event ≡ said pointer (says WlPointer 0 (Word serial ∷ Word surface ∷ Number x ∷ Number y ∷ [])))

abbrev pub IsLeave : ℕ → ℕ → Said → Type 0
IsLeave pointer serial event = (surface : ℕ) × (event ≡ said pointer (says WlPointer 1 (Word serial ∷ Word surface ∷ [])))

-- one of these to one of these wl_pointers
abbrev pub IsOfFocus : List ℕ → ℕ → Said → Type 0
IsOfFocus pointers serial event = (pointer : ℕ) × (is_among pointer pointers ≡ true)
    × (IsEnter pointer serial event ⊎ IsLeave pointer serial event)

abbrev pub AreOfFocus : List ℕ → ℕ → List Said → Type 0
AreOfFocus pointers serial [] = Unit {0}
AreOfFocus pointers serial (event ∷ events) = IsOfFocus pointers serial event × AreOfFocus pointers serial events

-- a client that was told these events, with the serial that was drawn for them
abbrev pub told_once : List Said → Resident → Resident
told_once events r =
    with_peer (record r.peer { unsent = r.peer.unsent ++ flat_map said_bytes events; serial = next_serial r.peer.serial }) r

-- The focus came and went, and each time a client that has wl_pointers was told so with its next serial; it is else as it was.
abbrev pub IsToldTimes : List (List Said) → Resident → Resident → Type 0
IsToldTimes [] r q = q ≡ r
IsToldTimes (events ∷ times) r q = (has_pointers r ≡ true) × AreOfFocus r.pointers r.peer.serial events
    × IsToldTimes times (told_once events r) q

abbrev pub IsToldOfFocus : Resident → Resident → Type 0
IsToldOfFocus r q = (times : List (List Said)) × IsToldTimes times r q

-- Of an event of the focus, why it wasn't queued to a client: it was past the limit, or else there was no memory.
abbrev pub IsNotQueued : Cause → Resident → Type 0
IsNotQueued cause r =
    (serial : ℕ) × (event : Said) × IsOfFocus r.pointers serial event × (cause ≡ (if has_room r.peer.unsent event then Memory else Slow))

-- A client was told of the focus until such an event wasn't queued, and has ended for that.
abbrev pub HasEndedUntold : Resident → Resident → Type 0
HasEndedUntold r q = (told : Resident) × (cause : Cause) × IsToldOfFocus r told × IsNotQueued cause told
    × (q ≡ resident_of (ended cause told.peer))

-- A client that lived, with its toplevels before and after: they stand where they did and in the order that they did, or it has ended.
abbrev pub IsLeftLiving : Resident → List Standing → Option Resident → List Standing → Type 0
IsLeftLiving r before None after = ⊥
IsLeftLiving r before (Some q) after = (IsToldOfFocus r q × (after ≡ before)) ⊎ (HasEndedUntold r q × (after ≡ []))

-- one that ended before is as it was
abbrev pub IsLeftBy : Option Cause → Resident → List Standing → Option Resident → List Standing → Type 0
IsLeftBy (Some cause) r before now after = (now ≡ Some r) × (after ≡ before)
IsLeftBy None r before now after = IsLeftLiving r before now after

-- where none has the number, none has it after; one that has it is left as above
abbrev pub IsLeftSo : Option Resident → List Standing → Option Resident → List Standing → Type 0
IsLeftSo None before now after = (now ≡ None) × (after ≡ before)
IsLeftSo (Some r) before now after = IsLeftBy r.peer.status r before now after

-- The client with this number is left alone, but for what it is told of the focus.
abbrev pub IsLeftAlone : ℕ → Desktop → Desktop → Type 0
IsLeftAlone other old new = IsLeftSo (client_at other old) (toplevels_of other old) (client_at other new) (toplevels_of other new)

-- the client that a step is of, if it is of one
abbrev pub client_of : Act → Done → Option ℕ
client_of Connect (gave.Connect (Ok c)) = Some c
client_of Connect done = None
client_of (Feed c piece) done = Some c
client_of (Store c store at bytes) done = Some c
client_of (Leave c) done = Some c
client_of (Tick time) done = None
client_of (Send c n) done = Some c
client_of (Close c) done = Some c
client_of (Motion time x y) done = None
client_of (Button time button pressed) done = None

-- A step of a client leaves every other client alone, a message that is refused too.
abbrev pub OthersAreLeftAlone : Type 0
OthersAreLeftAlone =
    (act : Act) (done : Done) (c other : ℕ) (old new : Desktop) → client_of act done ≡ Some c
    → Happens act done old new → c ≢ other
    → IsLeftAlone other old new

-- ---- a message that is refused

abbrev pub refusal_of : Result Demand Refusal → Option Refusal
refusal_of (Ok demand) = None
refusal_of (Err refusal) = Some refusal

-- why the first message of what has come from a client is refused, if it is: for its header, or for what is judged of it
abbrev pub refused_for : Split → Resident → Option Refusal
refused_for (Whole object opcode size) r = refusal_of (judge_all r object opcode (take (size - 8) (drop 8 r.peer.rest)))
refused_for Bad r = Some (display_error InvalidMethod)
refused_for More r = None

abbrev pub first_refusal : Resident → Option Refusal
first_refusal r = refused_for (split_of r.peer.rest) r

-- A client has ended with this error, of which it was told, or with Slow or Memory where that event wasn't queued. Nothing is left of what
-- it owned, and none of its toplevels stands.
abbrev pub HasErred : Refusal → ℕ → Resident → Desktop → Type 0
HasErred refusal c r new = (q : Peer) × Errs refusal r.peer q × (client_at c new ≡ Some (resident_of q)) × (toplevels_of c new ≡ [])

-- nothing more is taken of what came from a client: the piece that is being taken leads here
abbrev pub IsTheLast : ℕ → Desktop → Type 0
IsTheLast c new = (n : ℕ) (mid end : Desktop) → Reaches c n new mid → StopsAt c (client_at c mid) mid end → end ≡ new

-- A message that is refused ends its client with that error, is the last that is taken of that client, and leaves every other client alone.
abbrev pub RefusedAlone : Type 0
RefusedAlone =
    (c : ℕ) (r : Resident) (refusal : Refusal) (old new : Desktop) → client_at c old ≡ Some r
    → first_refusal r ≡ Some refusal
    → Serves c old new → HasErred refusal c r new × IsTheLast c new × ((other : ℕ) → c ≢ other → IsLeftAlone other old new)
