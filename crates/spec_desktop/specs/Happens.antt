-- What may happen to the plain desktop where every request is served.
use Rattle.std.specs.Prelude.{ℕ, ℤ, pos, zero, suc, ◌≡◌, ◌+◌, ◌-◌, ◌==◌, int_lt, Bool, true, false, if◌then◌else◌, is_none, Option, Some}
use Rattle.std.specs.Prelude.{None, Result, Ok, Err, List, [], ◌∷◌, ◌++◌, take, drop, filter, flat_map, ◌⊎◌}
use Rattle.std.specs.List.{list_any}
use Rattle.wl_wire.specs.Wire.{Word, split_of}
use Rattle.wl_proto.specs.declared.interface.Interface.TheVariants.{WlCallback}
use Rattle.wl_proto.specs.Messages.{says}
use Rattle.wl_wire.specs.declared.header.Split.{Split}
use Rattle.wl_wire.specs.declared.header.Split.TheVariants.{Message as Whole, More, Bad}
use Rattle.spec_desktop.specs.declared.cause.Cause.{Cause}
use Rattle.spec_desktop.specs.declared.cause.Cause.TheVariants as cause
use Rattle.spec_desktop.specs.declared.refusals.ErrorCode.TheVariants.{InvalidMethod}
use Rattle.spec_desktop.specs.declared.refusals.Refusal.{Refusal}
use Rattle.spec_desktop.specs.Peer.{Errs, IsIdle, LacksMemory, Peer, counted, ended, with_rest}
use Rattle.spec_desktop.specs.Told.{Output, Said, display_error, id_deleted, said}
use Rattle.wl_surface.specs.Frames.{frames_counting}
use Rattle.wl_surface.specs.Waiting.{Callback}
use Rattle.spec_desktop.specs.Pointer.{Pointer, Target, is_down, is_press, without_button}
use Rattle.spec_desktop.specs.PointerActions.{GoTo, Went, Press, Release}
use Rattle.spec_desktop.specs.Windows.{Place}
use Rattle.spec_desktop.specs.declared.answers.Done.{Done}
use Rattle.spec_desktop.specs.declared.answers.ConnectError.TheVariants.{Full, Memory}
use Rattle.spec_desktop.specs.declared.answers.Done.TheVariants as gave
use Rattle.spec_desktop.specs.declared.answers.Fed.TheVariants.{NoClient}
use Rattle.spec_desktop.specs.declared.answers.Stored.TheVariants as stored
use Rattle.spec_desktop.specs.Changing.{changed_for, grab_holder, stacked_for, with_kept_move, without_callbacks}
use Rattle.spec_desktop.specs.Demand.{Demand, Asks, Move}
use Rattle.spec_desktop.specs.Demanding.{judge_all}
use Rattle.spec_desktop.specs.Desktop.{Desktop, Resident, arrival, client_at, with_client, status_in}
use Rattle.spec_desktop.specs.Pointing.{has_pointers}
use Rattle.spec_desktop.specs.Replies.{replies}
use Rattle.spec_desktop.specs.Settling.{EndsAndSettles, Midstep, PointerActs, QueuesTo, Settles, SettlesEnds, Tells, becomes, struck_by}
use Rattle.spec_desktop.specs.Settling.{unstruck}
use Rattle.spec_desktop.specs.Stacked.{all_windows}
use Rattle.spec_desktop.specs.Step.{takes_memory, with_peer}
use Rattle.spec_desktop.specs.Act.{Act, Connect, Feed, Store, Leave, Tick, Send, Close, Motion, Button, IsClosed, IsSent, IsStored, fed_of}
use Rattle.spec_desktop.specs.Act.{lowest}

-- ---- one message

-- what has an effect may run out of memory, but for the move of a toplevel, which is only noted of the pointer
abbrev pub wants_memory : Demand → Bool
wants_memory (Asks ask) = takes_memory ask
wants_memory (Move surface serial) = false
wants_memory demand = true

-- What a message does by itself leads to a desktop in the middle of a step, with those that are to end since an event for them wasn't
-- queued. `Next` says what comes then.
abbrev pub BecomesThen : (Peer → Type 0) → ℕ → Resident → Desktop → (Midstep → Type 0) → Type 0
BecomesThen Q c r d Next = (q : Peer) × Q q × Next (unstruck (becomes c r q d))

-- the desktop after the change of a message, before its client is told
abbrev pub done_for : ℕ → Demand → Resident → Desktop → Desktop
done_for c demand r d = with_kept_move (stacked_for c demand r (all_windows d) d)

-- with its client told of it, which is to end where one of these events wasn't queued
abbrev pub changed_so : ℕ → Demand → Resident → Desktop → Peer → Option Cause → Midstep
changed_so c demand r d q why =
    record { desktop = with_client c (Some (with_peer q (changed_for c demand r d))) (done_for c demand r d); struck = struck_by c why [] }

-- what is asked is done, and its client is told
abbrev pub DoesThen : ℕ → Demand → Resident → Desktop → (Midstep → Type 0) → Type 0
DoesThen c demand r d Next =
    (q : Peer) × (why : Option Cause)
    × QueuesTo (replies c demand r (changed_for c demand r d) (all_windows d) d) (changed_for c demand r d).peer q why
    × Next (changed_so c demand r d q why)

abbrev pub WantsOrThen : Bool → Type 0 → ℕ → Resident → Desktop → (Midstep → Type 0) → Type 0
WantsOrThen false Later c r d Next = Later
WantsOrThen true Later c r d Next = BecomesThen (LacksMemory r.peer) c r d Next ⊎ Later

-- A message is done, or refused.
abbrev pub AnswersThen : Result Demand Refusal → ℕ → Resident → Desktop → (Midstep → Type 0) → Type 0
AnswersThen (Ok demand) c r d Next =
    WantsOrThen (wants_memory demand) (DoesThen c demand (with_peer (counted r.peer) r) d Next) c (with_peer (counted r.peer) r) d Next
AnswersThen (Err refusal) c r d Next = BecomesThen (Errs refusal r.peer) c r d Next

-- The first message of what has come is taken. A header whose size isn't allowed is refused as one.
abbrev pub TakesThen : Split → ℕ → Resident → Desktop → (Midstep → Type 0) → Type 0
TakesThen (Whole object opcode size) c r d Next =
    AnswersThen (judge_all r object opcode (take (size - 8) (drop 8 r.peer.rest))) c
    (with_peer (with_rest (drop size r.peer.rest) r.peer) r) d Next
TakesThen Bad c r d Next = BecomesThen (Errs (display_error InvalidMethod) r.peer) c r d Next
TakesThen More c r d Next = ⊥

-- a client that is there and lives takes one message
abbrev pub ServesThen : ℕ → Option Resident → Desktop → (Midstep → Type 0) → Type 0
ServesThen c None d Next = ⊥
ServesThen c (Some r) d Next = (r.peer.status ≡ None) × TakesThen (split_of r.peer.rest) c r d Next

-- ---- then those end that are to, and the focus is settled

abbrev pub settling : Desktop → Midstep → Type 0
settling new mid = EndsAndSettles mid new

-- One message of a client.
abbrev pub Serves : ℕ → Desktop → Desktop → Type 0
Serves c d new = ServesThen c (client_at c d) d (settling new)

-- ---- a piece

-- n messages, one after another
abbrev pub Reaches : ℕ → ℕ → Desktop → Desktop → Type 0
Reaches c zero d new = new ≡ d
Reaches c (suc n) d new = (mid : Desktop) × Reaches c n d mid × Serves c mid new

-- The taking of messages stops where none is left, or at any moment where memory runs out.
abbrev pub StopsAt : ℕ → Option Resident → Desktop → Desktop → Type 0
StopsAt c None d new = ⊥
StopsAt c (Some r) d new =
    ((new ≡ d) × IsIdle r.peer) ⊎ ((r.peer.status ≡ None) × EndsAndSettles (unstruck (becomes c r (ended cause.Memory r.peer) d)) new)

abbrev pub FeedsAt : ℕ → List ℕ → Option Cause → Resident → Desktop → Desktop → Type 0
FeedsAt c piece (Some cause) r d new = new ≡ d
FeedsAt c piece None r d new =
    (n : ℕ) × (mid : Desktop) × Reaches c n (with_client c (Some (with_peer (with_rest (r.peer.rest ++ piece) r.peer) r)) d) mid
    × StopsAt c (client_at c mid) mid new

abbrev pub IsFedAt : ℕ → List ℕ → Option Resident → Desktop → Done → Desktop → Type 0
IsFedAt c piece None d done new = (done ≡ gave.Feed NoClient) × (new ≡ d)
IsFedAt c piece (Some r) d done new = FeedsAt c piece r.peer.status r d new × (done ≡ gave.Feed (fed_of (status_in c new)))

-- ---- a client comes, goes, is written to, or closed
-- Beside what comes then, there is what comes where the focus needn't be settled any more.

abbrev pub ConnectsThen : Option ℕ → Desktop → Done → (Midstep → Type 0) → Type 0
ConnectsThen None d done Settled = (done ≡ gave.Connect (Err Full)) × Settled (unstruck d)
ConnectsThen (Some k) d done Settled =
    ((done ≡ gave.Connect (Err Memory)) × Settled (unstruck d))
    ⊎ ((done ≡ gave.Connect (Ok (k + 1))) × Settled (unstruck (with_client (k + 1) (Some (arrival d.output)) d)))

abbrev pub LeavesThen : ℕ → Option Resident → Desktop → Done → (Midstep → Type 0) → (Midstep → Type 0) → Type 0
LeavesThen c None d done Next Settled = (done ≡ gave.Gone false) × Settled (unstruck d)
LeavesThen c (Some r) d done Next Settled = (done ≡ gave.Gone (is_none r.peer.status)) × LeavesBy r.peer.status r
  where
    LeavesBy : Option Cause → Resident → Type 0
    LeavesBy (Some cause) r = Settled (unstruck d)
    LeavesBy None r = Next (unstruck (becomes c r (ended cause.Gone r.peer) d))

-- the client that is there changes by R, or there is none
abbrev pub ChangesThen : (Peer → Done → Option Peer → Type 0) → Done → ℕ → Option Resident → Desktop → Done → (Midstep → Type 0) → Type 0
ChangesThen R absent c None d done Settled = (done ≡ absent) × Settled (unstruck d)
ChangesThen R absent c (Some r) d done Settled = (q : Option Peer) × R r.peer done q × Settled (unstruck (held_so q r))
  where
    held_so : Option Peer → Resident → Desktop
    held_so None r = with_client c None d
    held_so (Some q) r = with_client c (Some (with_peer q r)) d

-- those end that are to, and after each the focus is settled
abbrev pub ending : Desktop → Midstep → Type 0
ending new mid = SettlesEnds mid new

-- ---- a frame is shown

abbrev pub is_counting : List ℕ → Callback → Bool
is_counting numbers callback = list_any (λ number. number == callback.number) numbers

abbrev pub callbacks_due : Resident → List Callback
callbacks_due r = filter (is_counting (frames_counting r.owned.surfaces)) r.callbacks

-- wl_callback.done with the frame's time, and its id is given back
abbrev pub frame_told : ℕ → ℕ → List Said
frame_told time id = said id (says WlCallback 0 (Word time ∷ [])) ∷ id_deleted id ∷ []

abbrev pub frames_told : ℕ → Resident → List Said
frames_told time r = flat_map (λ callback. frame_told time callback.id) (callbacks_due r)

abbrev pub TellsFrames : ℕ → ℕ → ℕ → Midstep → Midstep → Type 0
TellsFrames time zero c old new = new ≡ old
TellsFrames time (suc n) c old new =
    (mid : Midstep) × Tells (λ r. without_callbacks (callbacks_due r) r) (frames_told time) c old mid × TellsFrames time n (suc c) mid new

-- the clients in rising number
abbrev pub ShowsThen : ℕ → Desktop → (Midstep → Type 0) → Type 0
ShowsThen time d Next = (told : Midstep) × TellsFrames time 32 1 (unstruck d) told × Next told

-- ---- the pointer moves

-- a point is held within the output
abbrev pub within : ℕ → ℤ → ℤ
within side z = if int_lt z (pos 0) then pos 0 else (if int_lt z (pos side) then z else pos (side - 1))

abbrev pub point_in : Output → ℤ → ℤ → Place
point_in output x y = record { x = within output.width x; y = within output.height y }

-- the pointer is there
abbrev pub placed : Place → Midstep → Midstep
placed at m = record m { desktop = record m.desktop { pointer = record m.desktop.pointer { place = Some at } } }

-- a toplevel that it moves goes along, and then a surface is told of the motion, or the focus moves
abbrev pub MovesThen : ℕ → Place → Desktop → (Midstep → Type 0) → Type 0
MovesThen time at d Settled =
    (gone : Midstep) × PointerActs (GoTo at) (unstruck d) gone
    × (told : Midstep) × PointerActs (Went time) (placed at gone) told × Settled told

-- ---- a button

-- the serial of the press that begins a hold, where it is sent
abbrev pub serial_for : Option Resident → Option ℕ
serial_for None = None
serial_for (Some r) = if has_pointers r then Some r.peer.serial else None

abbrev pub press_serial : Option Target → Desktop → Option ℕ
press_serial None d = None
press_serial (Some t) d = serial_for (client_at t.client d)

abbrev pub hold_from : List ℕ → Pointer → Desktop → Option ℕ
hold_from [] p d = press_serial p.focus d
hold_from (button ∷ buttons) p d = p.hold

abbrev pub with_press : ℕ → Desktop → Desktop
with_press button d =
    record d { pointer = record d.pointer { buttons = d.pointer.buttons ++ button ∷ []; hold = hold_from d.pointer.buttons d.pointer d } }

-- after the last release nothing is held and nothing moved
abbrev pub released_to : List ℕ → Pointer → Pointer
released_to [] p = record p { buttons = []; hold = None; move = None }
released_to (button ∷ buttons) p = record p { buttons = button ∷ buttons }

abbrev pub with_release : ℕ → Desktop → Desktop
with_release button d = record d { pointer = released_to (without_button button d.pointer.buttons) d.pointer }

-- the pointer does what a press, or a release, asks, and then the focus is settled
abbrev pub PressedThen : ℕ → ℕ → Desktop → (Midstep → Type 0) → Type 0
PressedThen time button d Settled =
    (told : Midstep) × PointerActs (Press time button (grab_holder d)) (unstruck (with_press button d)) told
    × (settled : Midstep) × Settles told settled × Settled settled

abbrev pub ReleasedThen : ℕ → ℕ → Desktop → (Midstep → Type 0) → Type 0
ReleasedThen time button d Settled =
    (told : Midstep) × PointerActs (Release time button) (unstruck (with_release button d)) told
    × (settled : Midstep) × Settles told settled × Settled settled

-- a press of a button that is down, one past 16, and a release of one that isn't, do nothing
abbrev pub PressesThen : Bool → ℕ → ℕ → Desktop → (Midstep → Type 0) → Type 0
PressesThen true time button d Settled = PressedThen time button d Settled
PressesThen false time button d Settled = Settled (unstruck d)

abbrev pub ReleasesThen : Bool → ℕ → ℕ → Desktop → (Midstep → Type 0) → Type 0
ReleasesThen true time button d Settled = ReleasedThen time button d Settled
ReleasesThen false time button d Settled = Settled (unstruck d)

abbrev pub ButtonsThen : Bool → ℕ → ℕ → Desktop → (Midstep → Type 0) → Type 0
ButtonsThen true time button d Settled = PressesThen (is_press button d.pointer.buttons) time button d Settled
ButtonsThen false time button d Settled = ReleasesThen (is_down button d.pointer.buttons) time button d Settled

-- ---- all of them

-- What happens but a piece, which is the messages that it completes: by itself it leads to the middle of a step; what comes then is said of
-- those after which the focus is to be settled, and of the others.
abbrev pub HappensThen : Act → Done → Desktop → (Midstep → Type 0) → (Midstep → Type 0) → Type 0
HappensThen Connect done d Next Settled = ConnectsThen (lowest d.clients) d done Settled
HappensThen (Feed c piece) done d Next Settled = ⊥
HappensThen (Store c store at bytes) done d Next Settled =
    ChangesThen (IsStored store at bytes) (gave.Store stored.NoClient) c (client_at c d) d done Settled
HappensThen (Leave c) done d Next Settled = LeavesThen c (client_at c d) d done Next Settled
HappensThen (Tick time) done d Next Settled = (done ≡ gave.Tick) × ShowsThen time d Next
HappensThen (Send c n) done d Next Settled = ChangesThen (IsSent n) (gave.Sent false) c (client_at c d) d done Settled
HappensThen (Close c) done d Next Settled = ChangesThen IsClosed (gave.Close false) c (client_at c d) d done Settled
HappensThen (Motion time x y) done d Next Settled = (done ≡ gave.Motion) × MovesThen time (point_in d.output x y) d Settled
HappensThen (Button time button pressed) done d Next Settled = (done ≡ gave.Button) × ButtonsThen pressed time button d Settled

-- What may happen to the plain desktop, with its answer. That memory runs out is the only choice.
abbrev pub Happens : Act → Done → Desktop → Desktop → Type 0
Happens (Feed c piece) done d new = IsFedAt c piece (client_at c d) d done new
Happens act done d new = HappensThen act done d (settling new) (ending new)
