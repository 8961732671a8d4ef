-- How clients share the server's time: each is read while its share of a turn lasts, and pays for what it took.
use Rattle.std.specs.Prelude.{ℕ, ◌≡◌, ◌<◌, ◌≤◌, ◌+◌, ◌-◌, nat_lt, Bool, true, false, Option, None, Some}
use Rattle.wl_recording.specs.Side.{Files}
use Rattle.wl_server.specs.Acting.{InTurn, Stretch, Then}
use Rattle.wl_server.specs.Phases.{Accepting, AtSeat, FillsSeat, IfSeated, Intake, IsTurnBy, Link, Place, ReadsUntil, StartsTurnBy}
use Rattle.wl_server.specs.Viewed.{IsViewedTurnBy, Stage}
use Rattle.wl_server.specs.Watching.{Rests}
use Rattle.wl_server.specs.Ways.{Serving, Ways}
use Rattle.wl_server.specs.declared.seat.Seat.{Seat}

-- ---- a client is read

-- it owes more than it is paid, in nanoseconds
abbrev pub owes : {C : Type 0} → ℕ → Seat C → Bool
owes paid seat = nat_lt paid seat.debt

-- it isn't read, and owes less by what it is paid
abbrev pub passed_over : {C : Type 0} → ℕ → Seat C → Seat C
passed_over paid seat = record seat { has_sent = false; debt = seat.debt - paid }

-- its share is over: it was read once at least, and 16 times at most
abbrev pub IsShareOver : ℕ → Type 0
IsShareOver reads = (0 < reads) × (reads ≤ 16)

abbrev pub ReadsUnless : {H C : Type 0} → Bool → Ways H C → ℕ → ℕ → Link H C → Link H C → Stretch
ReadsUnless true w paid client from to start acts events end = Rests start acts events end × (to ≡ (from.0, passed_over paid from.1))
ReadsUnless false w paid client from to start acts events end =
    ReadsUntil IsShareOver w client (from.0, record from.1 { debt = 0 }) to start acts events end

-- A client that owes more than it is paid isn't read. Else it owes nothing more, and is read until a read gives none or its share is over.
abbrev pub ReadsShare : {H C : Type 0} → Ways H C → ℕ → ℕ → Link H C → Link H C → Stretch
ReadsShare w paid client from to start acts events end = ReadsUnless (owes paid from.1) w paid client from to start acts events end

abbrev pub ReadsShared : {H C : Type 0} → Ways H C → ℕ → ℕ → Place H C → Place H C → Stretch
ReadsShared w paid client from to start acts events end = IfSeated (ReadsShare w paid client) from to start acts events end

-- ---- its stores get their side files, and it pays

-- it owes a second at most, and is to be read by pieces of some size
abbrev pub ChargesIf : {C : Type 0} → Bool → Seat C → Option (Seat C) → Type 0
ChargesIf true old new = (debt : ℕ) × (piece : ℕ) × (debt ≤ 1000000000) × (new ≡ Some (record old { debt = debt; piece = piece }))
ChargesIf false old new = new ≡ Some old

-- who sent bytes pays for them
abbrev pub AreCharged : {C : Type 0} → Option (Seat C) → Option (Seat C) → Type 0
AreCharged None new = new ≡ None
AreCharged (Some old) new = ChargesIf old.has_sent old new

-- the side files of a client that sent bytes
abbrev pub FillsShared : {C S : Type 0} → Files S → ℕ → Place S C → Place S C → Stretch
FillsShared files client from to start acts events end =
    FillsSeat files client from.1 from.0 to.0 start acts events end × AreCharged from.1 to.1

-- ---- each client is

-- the hub and the side files, and what a client has, if it has anything
abbrev pub Both : Type 0 → Type 0 → Type 0 → Type 0
Both H C S = Place (H × S) C

abbrev pub OnHub : {H C S : Type 0} → (Place H C → Place H C → Stretch) → Both H C S → Both H C S → Stretch
OnHub P from to start acts events end = P (from.0.0, from.1) (to.0.0, to.1) start acts events end × (to.0.1 ≡ from.0.1)

abbrev pub OnSide : {H C S : Type 0} → (Place S C → Place S C → Stretch) → Both H C S → Both H C S → Stretch
OnSide P from to start acts events end = P (from.0.1, from.1) (to.0.1, to.1) start acts events end × (to.0.0 ≡ from.0.0)

-- A client is read while its share lasts, and its stores get their side files.
abbrev pub SharesSeat : {H C S : Type 0} → Ways H C → Files S → ℕ → ℕ → Both H C S → Both H C S → Stretch
SharesSeat w files paid client = Then (OnHub (ReadsShared w paid client)) (OnSide (FillsShared files client))

-- All clients are paid the same, 50,000 nanoseconds at least, and are served one after another.
abbrev pub Sharing : {H C S : Type 0} → Ways H C → Files S → Serving H C S → Serving H C S → Stretch
Sharing w files from to start acts events end =
    (paid : ℕ) × (50000 ≤ paid)
    × InTurn (AtSeat (SharesSeat w files paid)) 32 ((from.hub, from.side), from.connections.seats) ((to.hub, to.side), to.connections.seats)
    start acts events end × (to.connections.accepted ≡ from.connections.accepted) × (to.waiting ≡ from.waiting)

-- Connections are accepted, 32 at most, and all clients are served while their shares last.
abbrev pub SharesIn : {H C S : Type 0} → Ways H C → Files S → Intake H C S
SharesIn w files = Then (Accepting w) (Sharing w files)

-- ---- the turn

-- a turn whose clients share the server's time
abbrev pub IsSharedTurn : {H C S : Type 0} → Ways H C → Files S → ℕ → Serving H C S → Serving H C S → Stretch
IsSharedTurn w files time = IsTurnBy (SharesIn w files) w time

abbrev pub StartsSharedTurn : {H C S : Type 0} → Ways H C → Files S → ℕ → Serving H C S → Serving H C S → Stretch
StartsSharedTurn w files time = StartsTurnBy (SharesIn w files) w time

abbrev pub IsSharedViewedTurn : {H C S V D : Type 0} → Ways H C → Ways V D → Files S → ℕ → ℕ → ℕ → Stage H C S V D → Stage H C S V D → Stretch
IsSharedViewedTurn w v files time width height = IsViewedTurnBy (SharesIn w files) w v time width height

-- ---- nobody is passed over for ever

-- A debt was passed over so many times, one after another: it was more than what was paid, 50,000 nanoseconds at least, and less by that
-- afterwards.
pub data PassedOver (from : ℕ) : ℕ → ℕ → Type 0 where
  none : PassedOver from 0 from
  more : {n debt : ℕ} (paid : ℕ) → PassedOver from n debt → 50000 ≤ paid → paid < debt → PassedOver from (n + 1) (debt - paid)

-- one of a second at most isn't passed over 20,000 times
abbrev pub NobodyIsPassedOver : Type 0
NobodyIsPassedOver = (from to n : ℕ) → from ≤ 1000000000 → PassedOver from n to → n < 20000
