-- What happens where every request is served and memory is always there, as a function.
use Rattle.std.specs.Prelude.{ℕ, zero, suc, ◌+◌, ◌-◌, ◌||◌, Bool, true, false, is_some, Option, Some, None, Result, Ok, Err, List, [], ◌∷◌}
use Rattle.std.specs.Prelude.{◌++◌, length, take, drop}
use Rattle.wl_wire.specs.Wire.{split_of}
use Rattle.wl_wire.specs.declared.header.Split.{Split}
use Rattle.wl_wire.specs.declared.header.Split.TheVariants.{Message, More, Bad}
use Rattle.spec_desktop.specs.declared.cause.Cause.{Cause}
use Rattle.spec_desktop.specs.declared.cause.Cause.TheVariants as cause
use Rattle.spec_desktop.specs.declared.refusals.ErrorCode.TheVariants.{InvalidMethod}
use Rattle.spec_desktop.specs.declared.refusals.Refusal.{Refusal}
use Rattle.spec_desktop.specs.Peer.{Peer, counted, ended, has_room, queued, sent_by, stored_at, with_rest}
use Rattle.spec_desktop.specs.Told.{Said, code_number, display_error, error_told}
use Rattle.spec_desktop.specs.Pointer.{is_down, is_press}
use Rattle.spec_desktop.specs.PointerActions.{PointerAction, PointerInput, actions}
use Rattle.spec_desktop.specs.PointerActions as pointer
use Rattle.spec_desktop.specs.Stacking.{raised}
use Rattle.spec_desktop.specs.Windows.{Place, Window}
use Rattle.spec_desktop.specs.Changing.{changed_for, grab_holder, without_callbacks}
use Rattle.spec_desktop.specs.Demand.{Demand}
use Rattle.spec_desktop.specs.Demanding.{judge_all}
use Rattle.spec_desktop.specs.Desktop.{Desktop, Resident, arrival, client_at, with_client}
use Rattle.spec_desktop.specs.Pointing.{button_told, entered_surface, has_pointers, left_surface, motion_told, moved_standing}
use Rattle.spec_desktop.specs.Replies.{focus_window, popups_done, replies}
use Rattle.spec_desktop.specs.Settling.{Midstep, Strike, becomes, ended_all, ended_by, is_struck, leave_drawn, noted_if, number_of, struck_by}
use Rattle.spec_desktop.specs.Settling.{told_drawn, unstruck, with_focus, with_standing, without_grabs}
use Rattle.spec_desktop.specs.Stacked.{all_windows}
use Rattle.spec_desktop.specs.Step.{with_peer}
use Rattle.spec_desktop.specs.Act.{Act, Connect, Feed, Store, Leave, Tick, Send, Close, Motion, Button, closed_by, lowest}
use Rattle.spec_desktop.specs.Happens.{callbacks_due, changed_so, frames_told, placed, point_in, with_press, with_release}

-- ---- events

-- what a client becomes that is told events, and why one of them wasn't queued
abbrev pub or_slow : Bool → Peer × Option Cause → Peer → Peer × Option Cause
or_slow true next p = next
or_slow false next p = (p, Some cause.Slow)

abbrev pub queued_to : List Said → Peer → Peer × Option Cause
queued_to [] p = (p, None)
queued_to (event ∷ events) p = or_slow (has_room p.unsent event) (queued_to events (queued event p)) p

abbrev pub told_so : Resident → Peer × Option Cause → ℕ → Midstep → Midstep
told_so r told c m = record { desktop = with_client c (Some (record r { peer = told.0 })) m.desktop; struck = struck_by c told.1 m.struck }

abbrev pub tells_unless : Bool → (Resident → Resident) → (Resident → List Said) → ℕ → Resident → Midstep → Midstep
tells_unless true change events c r m = m
tells_unless false change events c r m = told_so (change r) (queued_to (events r) (change r).peer) c m

abbrev pub tells_at : (Resident → Resident) → (Resident → List Said) → ℕ → Option Resident → Midstep → Midstep
tells_at change events c None m = m
tells_at change events c (Some r) m = tells_unless (is_some r.peer.status || is_struck c m.struck) change events c r m

abbrev pub tells : (Resident → Resident) → (Resident → List Said) → ℕ → Midstep → Midstep
tells change events c m = tells_at change events c (client_at c m.desktop) m

-- ---- what the pointer does

abbrev pub applied : List Window → PointerAction → Midstep → Midstep
applied windows (pointer.Leave t) m = with_focus None (tells (leave_drawn t.surface) (left_surface t.surface) t.client m)
applied windows (pointer.Enter t) m =
    with_focus (Some t) (tells told_drawn (entered_surface m.desktop.pointer.place (focus_window (Some t) windows)) t.client m)
applied windows (pointer.Motion time t) m =
    tells (λ r. r) (motion_told time m.desktop.pointer.place (focus_window (Some t) windows)) t.client m
applied windows (pointer.Button time button pressed t) m =
    tells (λ r. noted_if (has_pointers r) pressed r) (button_told time button (number_of pressed)) t.client m
applied windows (pointer.Raise t) m = with_standing (raised t.client t.surface m.desktop.standing) m
applied windows (pointer.MoveWindow t x y) m = with_standing (moved_standing t x y m.desktop.standing) m
applied windows (pointer.Dismiss c) m = tells without_grabs (λ r. popups_done r (without_grabs r)) c m

abbrev pub applied_all : List Window → List PointerAction → Midstep → Midstep
applied_all windows [] m = m
applied_all windows (action ∷ later) m = applied_all windows later (applied windows action m)

abbrev pub acts_on : List Window → PointerInput → Midstep → Midstep
acts_on windows input m = applied_all windows (actions input m.desktop.pointer windows) m

abbrev pub acts : PointerInput → Midstep → Midstep
acts input m = acts_on (all_windows m.desktop) input m

-- ---- the focus is settled, and clients end

abbrev pub settles : Midstep → Midstep
settles m = acts pointer.Settle m

abbrev pub ends_first : (Midstep → Desktop) → List Strike → Desktop → Desktop
ends_first next [] d = d
ends_first next (s ∷ ss) d = next (record { desktop = ended_by s d; struck = ss })

abbrev pub then_ends : (Midstep → Desktop) → Midstep → Desktop
then_ends next mid = ends_first next mid.struck mid.desktop

abbrev pub settles_all : ℕ → Midstep → Desktop
settles_all zero m = m.desktop
settles_all (suc n) m = then_ends (λ mid. settles_all n mid) (settles m)

abbrev pub settles_ends : Midstep → Desktop
settles_ends mid = then_ends (λ m. settles_all 32 m) mid

abbrev pub ends_and_settles : Midstep → Desktop
ends_and_settles mid = settles_all 33 (unstruck (ended_all mid.struck mid.desktop))

-- ---- messages

-- a client that is refused: where there is room it is told, and else it is too slow
abbrev pub refused_or : Bool → Peer → Peer → Peer
refused_or true next p = next
refused_or false next p = ended cause.Slow p

abbrev pub refused : Refusal → Peer → Peer
refused refusal p =
    refused_or (has_room p.unsent (error_told refusal))
    (ended (cause.Protocol refusal.object (code_number refusal.code)) (queued (error_told refusal) p)) p

abbrev pub became : ℕ → Resident → Peer → Desktop → Desktop
became c r q d = ends_and_settles (unstruck (becomes c r q d))

abbrev pub done_so : Peer × Option Cause → ℕ → Demand → Resident → Desktop → Desktop
done_so told c demand r d =
    ends_and_settles (changed_so c demand r d told.0 told.1)

abbrev pub done : ℕ → Demand → Resident → Desktop → Desktop
done c demand r d =
    done_so (queued_to (replies c demand r (changed_for c demand r d) (all_windows d) d) (changed_for c demand r d).peer) c demand r d

abbrev pub answered : Result Demand Refusal → ℕ → Resident → Desktop → Desktop
answered (Ok demand) c r d = done c demand (with_peer (counted r.peer) r) d
answered (Err refusal) c r d = became c r (refused refusal r.peer) d

abbrev pub taken : Split → ℕ → Resident → Desktop → Desktop
taken (Message object opcode size) c r d =
    answered (judge_all r object opcode (take (size - 8) (drop 8 r.peer.rest))) c
    (with_peer (with_rest (drop size r.peer.rest) r.peer) r) d
taken Bad c r d = became c r (refused (display_error InvalidMethod) r.peer) d
taken More c r d = d

abbrev pub served_by : ℕ → Option Cause → Resident → Desktop → Desktop
served_by c (Some cause) r d = d
served_by c None r d = taken (split_of r.peer.rest) c r d

abbrev pub served_at : ℕ → Option Resident → Desktop → Desktop
served_at c None d = d
served_at c (Some r) d = served_by c r.peer.status r d

abbrev pub served : ℕ → Desktop → Desktop
served c d = served_at c (client_at c d) d

-- at most n messages
abbrev pub served_all : ℕ → ℕ → Desktop → Desktop
served_all c zero d = d
served_all c (suc n) d = served c (served_all c n d)

abbrev pub fed_by : ℕ → List ℕ → Option Cause → Resident → Desktop → Desktop
fed_by c piece (Some cause) r d = d
fed_by c piece None r d =
    served_all c (length (r.peer.rest ++ piece)) (with_client c (Some (with_peer (with_rest (r.peer.rest ++ piece) r.peer) r)) d)

abbrev pub fed_at : ℕ → List ℕ → Option Resident → Desktop → Desktop
fed_at c piece None d = d
fed_at c piece (Some r) d = fed_by c piece r.peer.status r d

-- a piece comes to a client
abbrev pub fed : ℕ → List ℕ → Desktop → Desktop
fed c piece d = fed_at c piece (client_at c d) d

-- ---- the other steps

abbrev pub connects_at : Option ℕ → Desktop → Desktop
connects_at None d = d
connects_at (Some k) d = with_client (k + 1) (Some (arrival d.output)) d

abbrev pub left_by : ℕ → Option Cause → Resident → Desktop → Desktop
left_by c (Some cause) r d = d
left_by c None r d = became c r (ended cause.Gone r.peer) d

abbrev pub left_at : ℕ → Option Resident → Desktop → Desktop
left_at c None d = d
left_at c (Some r) d = left_by c r.peer.status r d

abbrev pub held_so : ℕ → Resident → Option Peer → Desktop → Desktop
held_so c r None d = with_client c None d
held_so c r (Some q) d = with_client c (Some (with_peer q r)) d

abbrev pub changes_at : (Peer → Option Peer) → ℕ → Option Resident → Desktop → Desktop
changes_at change c None d = d
changes_at change c (Some r) d = held_so c r (change r.peer) d

-- the clients up to the n-th, in rising number
abbrev pub frames_to : ℕ → ℕ → Midstep → Midstep
frames_to time zero m = m
frames_to time (suc n) m = tells (λ r. without_callbacks (callbacks_due r) r) (frames_told time) (suc n) (frames_to time n m)

abbrev pub shown : ℕ → Desktop → Desktop
shown time d = ends_and_settles (frames_to time 32 (unstruck d))

-- ---- the pointer

-- the pointer is there, and what it moves went along
abbrev pub gone_to : Place → Desktop → Midstep
gone_to at d = placed at (acts (pointer.GoTo at) (unstruck d))

abbrev pub moved_to : ℕ → Place → Desktop → Desktop
moved_to time at d = settles_ends (acts (pointer.Went time) (gone_to at d))

abbrev pub pressed_if : Bool → ℕ → ℕ → Desktop → Desktop
pressed_if true time button d =
    settles_ends (settles (acts (pointer.Press time button (grab_holder d)) (unstruck (with_press button d))))
pressed_if false time button d = d

abbrev pub released_if : Bool → ℕ → ℕ → Desktop → Desktop
released_if true time button d = settles_ends (settles (acts (pointer.Release time button) (unstruck (with_release button d))))
released_if false time button d = d

abbrev pub buttons : Bool → ℕ → ℕ → Desktop → Desktop
buttons true time button d = pressed_if (is_press button d.pointer.buttons) time button d
buttons false time button d = released_if (is_down button d.pointer.buttons) time button d

-- ---- all of them

abbrev pub happened : Act → Desktop → Desktop
happened Connect d = connects_at (lowest d.clients) d
happened (Feed c piece) d = fed c piece d
happened (Store c store at bytes) d = changes_at (λ p. Some (stored_at p.status store at bytes p)) c (client_at c d) d
happened (Leave c) d = left_at c (client_at c d) d
happened (Tick time) d = shown time d
happened (Send c n) d = changes_at (λ p. Some (sent_by n p)) c (client_at c d) d
happened (Close c) d = changes_at (λ p. closed_by p.status p) c (client_at c d) d
happened (Motion time x y) d = moved_to time (point_in d.output x y) d
happened (Button time button pressed) d = buttons pressed time button d
