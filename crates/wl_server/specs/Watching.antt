-- The viewer's place: the phases in which a viewer is served, and which acts these are.
use Rattle.std.specs.Prelude.{ℕ, ◌≡◌, ◌≤◌, ◌<◌, ◌⊎◌, ◌||◌, ◌&&◌, not, Bool, true, false, List, [], ◌∷◌, ◌++◌, drop, flat_map, length, map, Option, None, Some}
use Rattle.spec_desktop.specs.Act as act
use Rattle.spec_desktop.specs.Act.{Act, Tick}
use Rattle.spec_desktop.specs.Desktop.{Desktop}
use Rattle.wl_clients.specs.declared.shown.ShownWindow.{ShownWindow}
use Rattle.wl_session.specs.Damage.{Damaged, has}
use Rattle.wl_session.specs.Events.{Event, Moment}
use Rattle.wl_session.specs.Frame.{Image}
use Rattle.wl_session.specs.Shown.{shown_windows}
use Rattle.wl_viewer.specs.Hearing.{asks, hears}
use Rattle.wl_viewer.specs.Telling.{IsTold, Joins, Update, answered, count_line, ended, greeting, is_as_large, is_done, is_free, sync_text, told_windows, window_line}
use Rattle.wl_viewer.specs.View.{ViewerView}
use Rattle.wl_viewer.specs.declared.asked.Asked.{Asked}
use Rattle.wl_viewer.specs.declared.asked.Asked.TheVariants as asked
use Rattle.wl_viewer.specs.declared.texts.WindowLine.{WindowLine}
use Rattle.wl_server.specs.Acting.{Idle, InTurn, Stretch, Then}
use Rattle.wl_server.specs.Faults.{Rose}
use Rattle.wl_server.specs.Moves.{Delivers}
use Rattle.wl_server.specs.Ways.{Ways}

-- A viewer, with its connection: what it holds and is owed; whether it was told all that changed up to the last frame; and whether its
-- connection failed or ended, or memory for it was refused.
pub record Watching (C : Type 0) : Type 0 where
  pub conn : C
  pub viewer : ViewerView
  pub is_told : Bool
  pub has_failed : Bool

-- the hub, and the viewer
abbrev pub Link : Type 0 → Type 0 → Type 0
Link V C = V × Watching C

-- the hub, and who has the viewer's place, if anybody has
abbrev pub Place : Type 0 → Type 0 → Type 0
Place V C = V × Option (Watching C)

-- these acts, wherever they lead
abbrev pub Does : List Act → Stretch
Does done start acts events end = acts ≡ done

-- nothing happens to the session
abbrev pub Rests : Stretch
Rests start acts events end = (acts ≡ []) × (events ≡ []) × (end ≡ start)

-- ---- a viewer is written to

-- Of the bytes that wait for it the hub takes the first, until it takes no more or fails; those are sent.
pub record Sends {V C : Type 0} (w : Ways V C) (from to : Link V C) : Type 0 where
  pub sent : ℕ
  pub is_gone : Bool
  pub conn : C
  pub delivers : Delivers w.writes w.faults from.0 from.1.conn from.1.viewer.out sent is_gone to.0 conn
  pub kept : to.1 ≡ record from.1 { conn = conn; viewer = record from.1.viewer { out = drop sent from.1.viewer.out }; has_failed = is_gone }

abbrev pub SendsUnless : {V C : Type 0} → Bool → Ways V C → Link V C → Link V C → Type 0
SendsUnless true w from to = to ≡ from
SendsUnless false w from to = Sends w from to

-- one that failed gets nothing more
abbrev pub Writes : {V C : Type 0} → Ways V C → Link V C → Link V C → Type 0
Writes w from to = SendsUnless from.1.has_failed w from to

abbrev pub Writing : {V C : Type 0} → Ways V C → Link V C → Link V C → Stretch
Writing w from to start acts events end = Rests start acts events end × Writes w from to

-- ---- what it sent is taken

-- what the pointer does by what is asked, at this time
abbrev pub act_of : ℕ → Asked → List Act
act_of time (asked.Motion x y) = act.Motion time x y ∷ []
act_of time (asked.Button code pressed) = act.Button time code pressed ∷ []
act_of time (asked.Sync number) = []
act_of time asked.Windows = []
act_of time asked.Nothing = []
act_of time asked.Bad = []

abbrev pub acts_of : ℕ → List Asked → List Act
acts_of time [] = []
acts_of time (one ∷ more) = act_of time one ++ acts_of time more

-- it heard these bytes
abbrev pub heard_by : List ℕ → ViewerView → ViewerView
heard_by bytes viewer = record viewer { heard = hears viewer.heard bytes }

-- One read gave a piece, which is taken: the pointer does what its lines ask.
pub record TakesPiece {V C : Type 0} (w : Ways V C) (time : ℕ) (from to : Link V C) (start : Moment) (acts : List Act) (events : List Event) (end : Moment) : Type 0 where
  pub conn : C
  pub piece : List ℕ
  pub goes_on : from.1.has_failed ≡ false
  pub is_fine : from.1.viewer.heard.is_bad ≡ false
  pub some : 0 < length piece
  pub few : length piece ≤ 4096
  pub reads : w.reads from.0 from.1.conn (Some piece) to.0 conn
  pub calm : w.faults to.0 ≡ w.faults from.0
  pub kept : to.1 ≡ record from.1 { conn = conn; viewer = heard_by piece from.1.viewer }
  pub acts_are : acts ≡ acts_of time (asks from.1.viewer.heard piece)

-- it is read no more after it failed, or sent a line that is none
abbrev pub IsLeft : {V C : Type 0} → Link V C → Link V C → Type 0
IsLeft from to = ((from.1.has_failed ≡ true) ⊎ (from.1.viewer.heard.is_bad ≡ true)) × (to ≡ from)

-- a read would wait
abbrev pub Waits : {V C : Type 0} → Ways V C → Link V C → Link V C → Type 0
Waits {V} {C} w from to =
    (conn : C) × w.reads from.0 from.1.conn None to.0 conn × (w.faults to.0 ≡ w.faults from.0) × (to.1 ≡ record from.1 { conn = conn })

-- it sends no more, or the read failed
abbrev pub Ends : {V C : Type 0} → Ways V C → Link V C → Link V C → Type 0
Ends {V} {C} w from to =
    (conn : C)
    × ((w.reads from.0 from.1.conn (Some []) to.0 conn × (w.faults to.0 ≡ w.faults from.0)) ⊎ Rose (w.faults from.0) (w.faults to.0))
    × (to.1 ≡ record from.1 { conn = conn; has_failed = true })

-- one read gives none
abbrev pub TakesNone : {V C : Type 0} → Ways V C → Link V C → Link V C → Stretch
TakesNone w from to start acts events end = (acts ≡ []) × (IsLeft from to ⊎ (Waits w from to ⊎ Ends w from to))

abbrev pub TakesOnce : {V C : Type 0} → Ways V C → ℕ → Bool → Link V C → Link V C → Stretch
TakesOnce w time true from to start acts events end = TakesPiece w time from to start acts events end
TakesOnce w time false from to start acts events end = TakesNone w from to start acts events end

-- why it is read no more: it was read 16 times, or a read gave none
abbrev pub StopsTaking : {V C : Type 0} → Ways V C → ℕ → Link V C → Link V C → Stretch
StopsTaking w reads from to start acts events end =
    ((reads ≡ 16) × Idle from to start acts events end) ⊎ ((reads < 16) × TakesNone w from to start acts events end)

-- It is read until a read gives none, 16 times at most, and what each read gave is taken.
abbrev pub Reads : {V C : Type 0} → Ways V C → ℕ → Link V C → Link V C → Stretch
Reads w time from to start acts events end =
    (n : ℕ) × (n ≤ 16) × Then (InTurn (λ k. TakesPiece w time) n) (StopsTaking w n) from to start acts events end

-- ---- it may lose its place

-- these buttons are released
abbrev pub releases : ℕ → List ℕ → List Act
releases time [] = []
releases time (code ∷ more) = act.Button time code false ∷ releases time more

-- it failed or ended, or was told of a bad line
abbrev pub is_dismissed : {C : Type 0} → Watching C → Bool
is_dismissed watching = watching.has_failed || is_done watching.viewer

abbrev pub DismissesIf : {V C : Type 0} → Bool → Ways V C → ℕ → V → Watching C → Place V C → Stretch
DismissesIf true w time hub watching to start acts events end =
    (acts ≡ releases time watching.viewer.heard.held) × (to.1 ≡ None) × w.closes hub watching.conn to.0 × (w.faults to.0 ≡ w.faults hub)
DismissesIf false w time hub watching to start acts events end = Idle (hub, Some watching) to start acts events end

-- One that failed or ended, or was told of a bad line, loses its place: the buttons that it holds are released, and its connection is closed.
abbrev pub Dismisses : {V C : Type 0} → Ways V C → ℕ → Place V C → Place V C → Stretch
Dismisses w time (hub, None) to start acts events end = Idle (hub, None) to start acts events end
Dismisses w time (hub, Some watching) to start acts events end = DismissesIf (is_dismissed watching) w time hub watching to start acts events end

-- ---- it is served

-- what is done with the viewer, if there is one
abbrev pub IfWatched : {V C : Type 0} → (Link V C → Link V C → Stretch) → Place V C → Place V C → Stretch
IfWatched P (hub, None) to start acts events end = Idle (hub, None) to start acts events end
IfWatched {V} {C} P (hub, Some watching) to start acts events end =
    (next : Watching C) × P (hub, watching) (to.0, next) start acts events end × (to.1 ≡ Some next)

-- A viewer is written to and read, if there is one, and may lose its place.
abbrev pub Attends : {V C : Type 0} → Ways V C → ℕ → Place V C → Place V C → Stretch
Attends w time = Then (IfWatched (Then (Writing w) (Reads w time))) (Dismisses w time)

-- one that wasn't told anything yet, of an output with these sides
pub record IsNew {C : Type 0} (width height : ℕ) (conn : C) (watching : Watching C) : Type 0 where
  pub kept : watching.conn ≡ conn
  pub calm : watching.has_failed ≡ false
  pub heard : watching.viewer.heard ≡ record { line = []; held = []; sync = None; wants_windows = false; is_bad = false }
  pub untold : (x y : ℕ) → x < width → y < height → has watching.viewer.untold x y ≡ true
  pub wide : watching.viewer.untold.width ≡ width
  pub high : watching.viewer.untold.height ≡ height
  pub out : watching.viewer.out ≡ greeting width height
  pub going : watching.viewer.is_over ≡ false

-- none waits, or the hub failed
abbrev pub AcceptsNone : {V C : Type 0} → Ways V C → Place V C → Place V C → Type 0
AcceptsNone w from to =
    ((w.accepts from.0 None to.0 × (w.faults to.0 ≡ w.faults from.0)) ⊎ Rose (w.faults from.0) (w.faults to.0)) × (to.1 ≡ from.1)

-- the hub gives a connection, which is closed at once
abbrev pub Refuses : {V C : Type 0} → Ways V C → Place V C → Place V C → Type 0
Refuses {V} {C} w from to =
    (conn : C) × (hub : V) × w.accepts from.0 (Some conn) hub × (w.faults hub ≡ w.faults from.0)
    × w.closes hub conn to.0 × (w.faults to.0 ≡ w.faults hub) × (to.1 ≡ from.1)

-- the hub gives a connection, which gets the place that nobody has
abbrev pub Seats : {V C : Type 0} → Ways V C → ℕ → ℕ → Place V C → Place V C → Type 0
Seats {V} {C} w width height from to =
    (conn : C) × (watching : Watching C) × w.accepts from.0 (Some conn) to.0 × (w.faults to.0 ≡ w.faults from.0)
    × (from.1 ≡ None) × IsNew width height conn watching × (to.1 ≡ Some watching)

-- A connection that waits gets the place, if nobody has it and there is memory for a viewer, and else is closed at once.
abbrev pub AcceptsOne : {V C : Type 0} → Ways V C → ℕ → ℕ → Bool → Place V C → Place V C → Type 0
AcceptsOne w width height true from to = Seats w width height from to
AcceptsOne w width height false from to = AcceptsNone w from to ⊎ Refuses w from to

-- ---- a frame is told

-- The damage is untold too.
pub record Damages {C : Type 0} (damage : Damaged) (old joined : Watching C) : Type 0 where
  pub joins : Joins old.viewer.untold damage joined.viewer.untold
  pub heard : joined.viewer.heard ≡ old.viewer.heard
  pub out : joined.viewer.out ≡ old.viewer.out
  pub is_over : joined.viewer.is_over ≡ old.viewer.is_over
  pub conn : joined.conn ≡ old.conn
  pub has_failed : joined.has_failed ≡ old.has_failed

-- Where nothing waits to be sent, one update of all that is untold is made, in the pixels of this frame, or memory for it is refused.
abbrev pub Updates : {C : Type 0} → Bool → Image → ℕ → Option Update → Watching C → Watching C → Type 0
Updates true frame time update joined new =
    (IsTold frame time update joined.viewer new.viewer × (new ≡ record joined { viewer = new.viewer; is_told = true }))
    ⊎ ((update ≡ None) × (new.has_failed ≡ true) × (new.conn ≡ joined.conn) × (new.viewer.heard ≡ joined.viewer.heard))
Updates false frame time update joined new = (update ≡ None) × (new ≡ record joined { is_told = false })

abbrev pub RefreshesIf : {C : Type 0} → Bool → Damaged → Image → ℕ → Option Update → Watching C → Watching C → Type 0
RefreshesIf {C} true damage frame time update old new =
    (joined : Watching C) × Damages damage old joined × Updates (is_free joined.viewer) frame time update joined new
RefreshesIf false damage frame time update old new = (update ≡ None) × (new ≡ record old { has_failed = true })

-- What changed by a frame is untold too, and an update may be made. A viewer of another output would have failed.
abbrev pub Refreshes : {C : Type 0} → Damaged → Image → ℕ → Option Update → Watching C → Watching C → Type 0
Refreshes damage frame time update old new =
    RefreshesIf (not old.has_failed && is_as_large old.viewer.untold damage frame) damage frame time update old new

abbrev pub RefreshesPlace : {C : Type 0} → Damaged → Image → ℕ → Option Update → Option (Watching C) → Option (Watching C) → Type 0
RefreshesPlace damage frame time update None new = (update ≡ None) × (new ≡ None)
RefreshesPlace {C} damage frame time update (Some old) new = (next : Watching C) × Refreshes damage frame time update old next × (new ≡ Some next)

-- A frame is shown: the viewer is told of what was damaged as it began, in the pixels that it has.
abbrev pub Shows : {C : Type 0} → ℕ → Option Update → Option (Watching C) → Option (Watching C) → Stretch
Shows time update old new start acts events end =
    (acts ≡ Tick time ∷ []) × RefreshesPlace start.damage end.frame time update old new

abbrev pub ShowsTo : {V C : Type 0} → ℕ → Option Update → Place V C → Place V C → Stretch
ShowsTo time update from to start acts events end = Shows time update from.1 to.1 start acts events end × (to.0 ≡ from.0)

-- ---- answers

-- a window of the output, as a viewer is told of it
abbrev pub line_of : ShownWindow → WindowLine
line_of window =
    record { client = window.client; surface = window.surface; x = window.x; y = window.y; w = window.width; h = window.height }

-- all of a desktop, from bottom to top
abbrev pub lines_of : Desktop → List WindowLine
lines_of d = map line_of (shown_windows d)

-- the windows that are told of, where they are to be
abbrev pub windows_text : Bool → List WindowLine → List ℕ
windows_text true windows = count_line (length windows) ++ flat_map window_line windows
windows_text false windows = []

-- A sync that waits and a question for the windows are answered, where all was told.
abbrev pub answers : Bool → ℕ → List WindowLine → ViewerView → ViewerView
answers true time windows viewer =
    record viewer { heard = told_windows (answered viewer.heard); out = viewer.out ++ sync_text viewer.heard.sync time ++ windows_text viewer.heard.wants_windows windows }
answers false time windows viewer = viewer

-- It is answered what is due, and told of a bad line; or memory for that is refused.
abbrev pub AnswersUnless : {C : Type 0} → Bool → List WindowLine → ℕ → Watching C → Watching C → Type 0
AnswersUnless true windows time old new = new ≡ old
AnswersUnless false windows time old new =
    (new ≡ record old { viewer = ended (answers old.is_told time windows old.viewer) })
    ⊎ ((new.has_failed ≡ true) × (new.conn ≡ old.conn) × (new.viewer.heard.held ≡ old.viewer.heard.held))

abbrev pub Answers : {C : Type 0} → List WindowLine → ℕ → Watching C → Watching C → Type 0
Answers windows time old new = AnswersUnless old.has_failed windows time old new

-- The windows that it is told of are those of the desktop at this moment.
abbrev pub Answering : {V C : Type 0} → ℕ → Link V C → Link V C → Stretch
Answering time from to start acts events end =
    Rests start acts events end × (to.0 ≡ from.0) × Answers (lines_of start.desktop) time from.1 to.1

-- It is answered and written to, and may lose its place.
abbrev pub TellsOf : {V C : Type 0} → Ways V C → ℕ → Place V C → Place V C → Stretch
TellsOf w time = Then (IfWatched (Then (Answering time) (Writing w))) (Dismisses w time)
