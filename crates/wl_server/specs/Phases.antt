-- The phases of a turn: what each does to what the server works on, and which acts that is.
use Rattle.std.specs.Prelude.{ℕ, ◌≡◌, ◌<◌, ◌≤◌, ◌+◌, ◌-◌, ◌^◌, ◌⊎◌, ◌||◌, ◌&&◌, Bool, true, false, List, [], ◌∷◌, ◌++◌, length, map}
use Rattle.std.specs.Prelude.{Option, Some, None, Result, Ok, Err}
use Rattle.wl_server.specs.Faults.{Rose}
use Rattle.wl_server.specs.Moves.{Delivers}
use Rattle.spec_desktop.specs.Act.{Act, Connect, Feed, Leave, Tick, Send, Close, peer_at, status_of, store_size_of, unsent_of}
use Rattle.spec_desktop.specs.Happenings.{Single}
use Rattle.spec_desktop.specs.declared.answers.ConnectError.{ConnectError}
use Rattle.spec_desktop.specs.declared.answers.Done.TheVariants as gave
use Rattle.spec_desktop.specs.declared.answers.Fed.{Fed}
use Rattle.spec_desktop.specs.declared.answers.Fed.TheVariants.{Alive, Ended, NoClient}
use Rattle.wl_recording.specs.Side.{Files}
use Rattle.wl_recording.specs.declared.pointer.PointerLine.{PointerLine}
use Rattle.wl_session.specs.Course.{Runs, happenings}
use Rattle.wl_session.specs.Events.{Event, Moment}
use Rattle.wl_session.specs.NextStore.{next_store_of}
use Rattle.wl_server.specs.declared.seat.Seat.{Seat}
use Rattle.wl_server.specs.Acting.{Idle, InTurn, Stretch, Then}
use Rattle.wl_server.specs.Filling.{IsPiece, Opens, PutsPart}
use Rattle.wl_server.specs.Ranges.{FillsListed, list_name}
use Rattle.wl_server.specs.Due.{due_at, left_at, asked_of}
use Rattle.wl_server.specs.Seats.{Seated, seat_of, with_seat}
use Rattle.wl_server.specs.Ways.{Serving, Ways}

-- ---- the pointer's lines are taken

-- the pointer goes where these lines say, and buttons are pressed and released
abbrev pub Points : List PointerLine → Stretch
Points lines start acts events end = acts ≡ asked_of lines

-- ---- connections are accepted

-- the hub, and the connections
abbrev pub Line : Type 0 → Type 0 → Type 0
Line H C = H × Seated (Seat C)

-- a connection that nothing came from yet
abbrev pub new_seat : {C : Type 0} → C → ℕ → Seat C
new_seat conn number = record { conn = conn; number = number; has_sent = false; has_failed = false; debt = 0; piece = 8 }

-- A client that connects gets the connection, with its place among those that were accepted; where no client can connect, the connection is
-- closed at once.
abbrev pub Seats : {H C : Type 0} → Ways H C → Result ℕ ConnectError → C → H → Seated (Seat C) → Line H C → Type 0
Seats w (Ok client) conn hub counted to =
    (to.0 ≡ hub) × (to.1 ≡ record counted { seats = with_seat client (Some (new_seat conn counted.accepted)) counted.seats })
Seats w (Err error) conn hub counted to = w.closes hub conn to.0 × (w.faults to.0 ≡ w.faults hub) × (to.1 ≡ counted)

-- the hub gives a connection, which is counted, and a client asks to connect
pub record Accepts {H C : Type 0} (w : Ways H C) (from to : Line H C) (start : Moment) (acts : List Act) (events : List Event) (end : Moment) : Type 0 where
  pub conn : C
  pub hub : H
  pub answer : Result ℕ ConnectError
  pub room : from.1.accepted < 2 ^ 32 - 1
  pub accepts : w.accepts from.0 (Some conn) hub
  pub calm : w.faults hub ≡ w.faults from.0
  pub seats : Seats w answer conn hub (record from.1 { accepted = from.1.accepted + 1 }) to
  pub acts_are : acts ≡ Connect ∷ []
  pub answers : happenings events ≡ Single Connect (gave.Connect answer) ∷ []

-- none is accepted, since none waits, all numbers were given, or the hub failed
pub record AcceptsNone {H C : Type 0} (w : Ways H C) (from to : Line H C) (start : Moment) (acts : List Act) (events : List Event) (end : Moment) : Type 0 where
  pub why :
      ((from.1.accepted ≡ 2 ^ 32 - 1) × (to.0 ≡ from.0))
      ⊎ ((w.accepts from.0 None to.0 × (w.faults to.0 ≡ w.faults from.0)) ⊎ Rose (w.faults from.0) (w.faults to.0))
  pub idle : Idle from.1 to.1 start acts events end

abbrev pub AcceptsOne : {H C : Type 0} → Ways H C → Bool → Line H C → Line H C → Stretch
AcceptsOne w true from to start acts events end = Accepts w from to start acts events end
AcceptsOne w false from to start acts events end = AcceptsNone w from to start acts events end

-- so many are accepted
abbrev pub AcceptsSome : {H C : Type 0} → Ways H C → ℕ → Line H C → Line H C → Stretch
AcceptsSome w n from to start acts events end = InTurn (λ k. Accepts w) n from to start acts events end

-- some are, 32 at most, and no more where that stops here
abbrev pub BeginsAccepting : {H C : Type 0} → Ways H C → Line H C → Line H C → Stretch
BeginsAccepting w from to start acts events end = (n : ℕ) × (n ≤ 32) × AcceptsSome w n from to start acts events end

-- 32 are accepted, or fewer and then no more
abbrev pub AcceptsAll : {H C : Type 0} → Ways H C → Line H C → Line H C → Stretch
AcceptsAll w from to start acts events end =
    AcceptsSome w 32 from to start acts events end
    ⊎ ((n : ℕ) × (n < 32) × Then (AcceptsSome w n) (AcceptsNone w) from to start acts events end)

-- ---- a client is read

-- the hub, and what a client has
abbrev pub Link : Type 0 → Type 0 → Type 0
Link H C = H × Seat C

-- One read gives a piece.
pub record Gets {H C : Type 0} (w : Ways H C) (piece : List ℕ) (from to : Link H C) : Type 0 where
  pub conn : C
  pub long : IsPiece piece
  pub reads : w.reads from.0 from.1.conn (Some piece) to.0 conn
  pub calm : w.faults to.0 ≡ w.faults from.0
  pub kept : to.1 ≡ record from.1 { conn = conn; has_sent = true }

-- One read gives none: it would wait; or the client is gone, at the end of what it sends or since the read failed.
abbrev pub EndsReading : {H C : Type 0} → Ways H C → ℕ → List Act → H → C → H → C → Type 0
EndsReading w client acts hub conn next_hub next_conn =
    ((acts ≡ []) × w.reads hub conn None next_hub next_conn × (w.faults next_hub ≡ w.faults hub))
    ⊎ ((acts ≡ Leave client ∷ [])
    × ((w.reads hub conn (Some []) next_hub next_conn × (w.faults next_hub ≡ w.faults hub)) ⊎ Rose (w.faults hub) (w.faults next_hub)))

pub record GetsNone {H C : Type 0} (w : Ways H C) (client : ℕ) (acts : List Act) (from to : Link H C) : Type 0 where
  pub conn : C
  pub ends : EndsReading w client acts from.0 from.1.conn to.0 conn
  pub kept : to.1 ≡ record from.1 { conn = conn }

-- what one read gave is fed, and one read more is to follow; or none is
abbrev pub ReadsOnce : {H C : Type 0} → Ways H C → ℕ → Bool → Link H C → Link H C → Stretch
ReadsOnce w client true from to start acts events end = (piece : List ℕ) × Gets w piece from to × (acts ≡ Feed client piece ∷ [])
ReadsOnce w client false from to start acts events end = GetsNone w client acts from to

-- reads gave these, one after another
pub data GetsAll {H C : Type 0} (w : Ways H C) (from : Link H C) : List (List ℕ) → Link H C → Type 0 where
  none : GetsAll w from [] from
  more : {pieces : List (List ℕ)} {mid to : Link H C} (piece : List ℕ) → GetsAll w from pieces mid → Gets w piece mid to
      → GetsAll w from (pieces ++ piece ∷ []) to

-- why it is read no more: it was read as often as it is to be, or a read gave none
abbrev pub StopsReading : {H C : Type 0} → (ℕ → Type 0) → Ways H C → ℕ → ℕ → List Act → Link H C → Link H C → Type 0
StopsReading IsOver w client reads acts from to =
    (IsOver reads × (acts ≡ []) × (to ≡ from)) ⊎ ((reads < 16) × GetsNone w client acts from to)

-- A client is read until a read gives none, or as often as it is to be: what each read gave is fed, and nothing else; then the client may be
-- gone.
pub record ReadsUntil {H C : Type 0} (IsOver : ℕ → Type 0) (w : Ways H C) (client : ℕ) (from to : Link H C) (start : Moment) (acts : List Act) (events : List Event) (end : Moment) : Type 0 where
  pub pieces : List (List ℕ)
  pub last : List Act
  pub mid : Link H C
  pub gets : GetsAll w (from.0, record from.1 { has_sent = false }) pieces mid
  pub stops : StopsReading IsOver w client (length pieces) last mid to
  pub acts_are : acts ≡ map (Feed client) pieces ++ last

-- it was read 16 times
abbrev pub IsSixteen : ℕ → Type 0
IsSixteen reads = reads ≡ 16

-- A client is read until a read gives none, 16 times at most.
abbrev pub ReadsClient : {H C : Type 0} → Ways H C → ℕ → Link H C → Link H C → Stretch
ReadsClient w client = ReadsUntil IsSixteen w client

-- the hub, and what a client has, if it has anything
abbrev pub Place : Type 0 → Type 0 → Type 0
Place H C = H × Option (Seat C)

-- what is done with what a client has, if it has anything
abbrev pub IfSeated : {H C : Type 0} → (Link H C → Link H C → Stretch) → Place H C → Place H C → Stretch
IfSeated P (hub, None) to start acts events end = Idle (hub, None) to start acts events end
IfSeated {H} {C} P (hub, Some seat) to start acts events end = (next : Seat C) × P (hub, seat) (to.0, next) start acts events end × (to.1 ≡ Some next)

abbrev pub Reads : {H C : Type 0} → Ways H C → ℕ → Place H C → Place H C → Stretch
Reads w client from to start acts events end = IfSeated (ReadsClient w client) from to start acts events end

-- ---- a client's stores get their side files

abbrev pub PutsSized : {S : Type 0} → Files S → ℕ → ℕ → ℕ → Option ℕ → S → S → Stretch
PutsSized files client number store None from to start acts events end = Idle from to start acts events end
PutsSized files client number store (Some size) from to start acts events end =
    PutsPart files client number store 0 0 size from to start acts events end

-- A client's store gets its side file.
abbrev pub Puts : {S : Type 0} → Files S → ℕ → ℕ → ℕ → S → S → Stretch
Puts files client number store from to start acts events end =
    PutsSized files client number store (store_size_of store (peer_at client start.desktop)) from to start acts events end

-- The client's live stores up to this one got their side files, one after another.
pub data FillsUpTo {S : Type 0} (files : Files S) (client number : ℕ) (from : S) (start : Moment) : ℕ → S → List Act → List Event → Moment → Type 0 where
  none : FillsUpTo files client number from start 0 from [] [] start
  more : (before : ℕ) (mid to : S) (moment end : Moment) (first next : List Act) (early late : List Event) (store : ℕ)
      → FillsUpTo files client number from start before mid first early moment
      → next_store_of before (peer_at client moment.desktop) ≡ Some store
      → Runs start first early moment → Runs moment next late end
      → Puts files client number store mid to moment next late end
      → FillsUpTo files client number from start store to (first ++ next) (early ++ late) end

-- Each live store of the client gets its side file, in rising number.
abbrev pub FillsStores : {S : Type 0} → Files S → ℕ → ℕ → S → S → Stretch
FillsStores files client number from to start acts events end =
    (last : ℕ) × FillsUpTo files client number from start last to acts events end × (next_store_of last (peer_at client end.desktop) ≡ None)

abbrev pub FillsAs : {S : Type 0} → Bool → Files S → ℕ → ℕ → S → S → Stretch
FillsAs true files client number from to start acts events end = FillsListed files client number from to start acts events end
FillsAs false files client number from to start acts events end = FillsStores files client number from to start acts events end

-- The client's list of ranges is opened. Where there is one, these ranges of its stores come out of their side files, and nothing else; where
-- there is none, or that fails, each live store gets its side file.
abbrev pub FillsClient : {S : Type 0} → Files S → ℕ → ℕ → S → S → Stretch
FillsClient {S} files client number from to start acts events end =
    (is_listed : Bool) × (opened : S) × Opens files (list_name number) 0 is_listed from opened
    × FillsAs is_listed files client number opened to start acts events end

abbrev pub FillsIf : {S : Type 0} → Bool → Files S → ℕ → ℕ → S → S → Stretch
FillsIf true files client number from to start acts events end = FillsClient files client number from to start acts events end
FillsIf false files client number from to start acts events end = Idle from to start acts events end

-- those of a client that sent bytes
abbrev pub FillsSeat : {C S : Type 0} → Files S → ℕ → Option (Seat C) → S → S → Stretch
FillsSeat files client None from to start acts events end = Idle from to start acts events end
FillsSeat files client (Some seat) from to start acts events end = FillsIf seat.has_sent files client seat.number from to start acts events end

abbrev pub Fills : {C S : Type 0} → Files S → List (Option (Seat C)) → ℕ → S → S → Stretch
Fills files seats client from to start acts events end = FillsSeat files client (seat_of client seats) from to start acts events end

-- ---- a frame is shown

abbrev pub Shows : ℕ → Stretch
Shows time start acts events end = acts ≡ Tick time ∷ []

-- ---- a client is written to

-- a client is gone where a write to it failed
abbrev pub leaves_if : Bool → ℕ → List Act
leaves_if true client = Leave client ∷ []
leaves_if false client = []

abbrev pub CountsIf : Bool → ℕ → ℕ → Type 0
CountsIf true old new = Rose old new
CountsIf false old new = new ≡ old

-- Of the bytes that wait for it the hub takes the first, until it takes no more or fails; those are sent.
pub record Gives {H C : Type 0} (w : Ways H C) (client : ℕ) (bytes : List ℕ) (from to : Link H C) (acts : List Act) : Type 0 where
  pub sent : ℕ
  pub is_gone : Bool
  pub conn : C
  pub delivers : Delivers w.writes w.faults from.0 from.1.conn bytes sent is_gone to.0 conn
  pub counts : CountsIf is_gone (w.faults from.0) (w.faults to.0)
  pub kept : to.1 ≡ record from.1 { conn = conn; has_failed = from.1.has_failed || is_gone }
  pub acts_are : acts ≡ Send client sent ∷ leaves_if is_gone client

abbrev pub WritesSome : {H C : Type 0} → Ways H C → ℕ → Option (List ℕ) → Link H C → Link H C → Stretch
WritesSome w client None from to start acts events end = Idle from to start acts events end
WritesSome w client (Some bytes) from to start acts events end = Gives w client bytes from to acts

abbrev pub WritesClient : {H C : Type 0} → Ways H C → ℕ → Link H C → Link H C → Stretch
WritesClient w client from to start acts events end =
    WritesSome w client (unsent_of (peer_at client start.desktop)) from to start acts events end

abbrev pub Writes : {H C : Type 0} → Ways H C → ℕ → Place H C → Place H C → Stretch
Writes w client from to start acts events end = IfSeated (WritesClient w client) from to start acts events end

-- ---- a client is closed, or isn't

-- nothing can be written to it any more
abbrev pub is_cut_off : {C : Type 0} → Option (Seat C) → Bool
is_cut_off None = true
is_cut_off (Some seat) = seat.has_failed

-- no bytes wait
abbrev pub is_none_left : Option (List ℕ) → Bool
is_none_left None = true
is_none_left (Some []) = true
is_none_left (Some (byte ∷ bytes)) = false

-- nothing is left to be written to it
abbrev pub is_finished : {C : Type 0} → Option (Seat C) → Option (List ℕ) → Bool
is_finished seat unsent = is_cut_off seat || is_none_left unsent

abbrev pub has_ended : Fed → Bool
has_ended Alive = false
has_ended (Ended cause) = true
has_ended NoClient = false

-- its connection is closed, if it has one
abbrev pub Hangs : {H C : Type 0} → Ways H C → Place H C → H → Type 0
Hangs w (hub, None) to = to ≡ hub
Hangs w (hub, Some seat) to = w.closes hub seat.conn to × (w.faults to ≡ w.faults hub)

abbrev pub ClosesIf : {H C : Type 0} → Bool → Ways H C → ℕ → Place H C → Place H C → Stretch
ClosesIf true w client from to start acts events end = (acts ≡ Close client ∷ []) × (to.1 ≡ None) × Hangs w from to.0
ClosesIf false w client from to start acts events end = Idle from to start acts events end

-- closed is a client that ended, once its bytes went out or can't
abbrev pub Closes : {H C : Type 0} → Ways H C → ℕ → Place H C → Place H C → Stretch
Closes w client from to start acts events end =
    ClosesIf (has_ended (status_of (peer_at client start.desktop)) && is_finished from.1 (unsent_of (peer_at client start.desktop)))
    w client from to start acts events end

-- ---- the turn

-- what a client does with what it has, those of the others staying
abbrev pub AtSeat : {H C : Type 0} → (ℕ → Place H C → Place H C → Stretch) → ℕ → H × List (Option (Seat C)) → H × List (Option (Seat C)) → Stretch
AtSeat {H} {C} Own client from to start acts events end =
    (next : Option (Seat C)) × Own client (from.0, seat_of client from.1) (to.0, next) start acts events end
    × (to.1 ≡ with_seat client next from.1)

-- Of the pointer's lines those that are due are taken, each once and in their order, up to the first that isn't.
abbrev pub Pointing : {H C S : Type 0} → ℕ → Serving H C S → Serving H C S → Stretch
Pointing time from to start acts events end =
    Points (due_at time from.waiting) start acts events end × (to ≡ record from { waiting = left_at time from.waiting })

abbrev pub Accepting : {H C S : Type 0} → Ways H C → Serving H C S → Serving H C S → Stretch
Accepting w from to start acts events end =
    AcceptsAll w (from.hub, from.connections) (to.hub, to.connections) start acts events end × (to.side ≡ from.side)
    × (to.waiting ≡ from.waiting)

-- the clients are served one after another
abbrev pub ForEach : {H C S : Type 0} → (ℕ → Place H C → Place H C → Stretch) → ℕ → Serving H C S → Serving H C S → Stretch
ForEach Own n from to start acts events end =
    InTurn (AtSeat Own) n (from.hub, from.connections.seats) (to.hub, to.connections.seats) start acts events end
    × (to.connections.accepted ≡ from.connections.accepted) × (to.side ≡ from.side) × (to.waiting ≡ from.waiting)

abbrev pub Filling : {H C S : Type 0} → Files S → Serving H C S → Serving H C S → Stretch
Filling files from to start acts events end =
    InTurn (Fills files from.connections.seats) 32 from.side to.side start acts events end × (to ≡ record from { side = to.side })

abbrev pub Showing : {H C S : Type 0} → ℕ → Serving H C S → Serving H C S → Stretch
Showing time from to start acts events end = Shows time start acts events end × (to ≡ from)

-- How clients are taken in.
abbrev pub Intake : Type 0 → Type 0 → Type 0 → Type 1
Intake H C S = Serving H C S → Serving H C S → Stretch

-- Connections are accepted, 32 at most; the clients are read, one after another; and those that sent bytes get their side files, one after
-- another.
abbrev pub TakesIn : {H C S : Type 0} → Ways H C → Files S → Intake H C S
TakesIn w files = Then (Accepting w) (Then (ForEach (Reads w) 32) (Filling files))

-- It begins so: connections are accepted, and no more.
abbrev pub StartsIn : {H C S : Type 0} → Ways H C → Intake H C S
StartsIn w from to start acts events end =
    BeginsAccepting w (from.hub, from.connections) (to.hub, to.connections) start acts events end × (to.side ≡ from.side)
    × (to.waiting ≡ from.waiting)

-- Up to the frame: the clients are taken in so, and a frame is shown.
abbrev pub UpToFrame : {H C S : Type 0} → Intake H C S → ℕ → Serving H C S → Serving H C S → Stretch
UpToFrame In time = Then In (Showing time)

-- Then the clients are written to, one after another; and those of the first n that ended are closed, one after another.
abbrev pub FromFrame : {H C S : Type 0} → Ways H C → ℕ → Serving H C S → Serving H C S → Stretch
FromFrame w n = Then (ForEach (Writes w) 32) (ForEach (Closes w) n)

-- the clients are served, up to the frame and from it on
abbrev pub Serves : {H C S : Type 0} → Intake H C S → Ways H C → ℕ → ℕ → Serving H C S → Serving H C S → Stretch
Serves In w time n = Then (UpToFrame In time) (FromFrame w n)

-- First the pointer does what it is to, and then all clients are served, taken in so.
abbrev pub IsTurnBy : {H C S : Type 0} → Intake H C S → Ways H C → ℕ → Serving H C S → Serving H C S → Stretch
IsTurnBy In w time = Then (Pointing time) (Serves In w time 32)

abbrev pub IsTurn : {H C S : Type 0} → Ways H C → Files S → ℕ → Serving H C S → Serving H C S → Stretch
IsTurn w files time = IsTurnBy (TakesIn w files) w time

-- The clients begin to be served so: they begin to be taken in; or it is gone on up to the frame; or until some of the clients are closed.
abbrev pub StartsServing : {H C S : Type 0} → Intake H C S → Ways H C → ℕ → Serving H C S → Serving H C S → Stretch
StartsServing In w time from to start acts events end =
    StartsIn w from to start acts events end
    ⊎ (UpToFrame In time from to start acts events end
    ⊎ ((n : ℕ) × (n ≤ 32) × Serves In w time n from to start acts events end))

-- A turn begins so: the pointer does what it is to, and the clients begin to be served.
abbrev pub StartsTurnBy : {H C S : Type 0} → Intake H C S → Ways H C → ℕ → Serving H C S → Serving H C S → Stretch
StartsTurnBy In w time = Then (Pointing time) (StartsServing In w time)

abbrev pub StartsTurn : {H C S : Type 0} → Ways H C → Files S → ℕ → Serving H C S → Serving H C S → Stretch
StartsTurn w files time = StartsTurnBy (TakesIn w files) w time
