-- The course of a session: the events that its steps are, whatever desktop it agrees with.
use Rattle.std.specs.Prelude.{ℕ, ◌≡◌, ◌⊎◌, Bool, List, [], ◌∷◌, ◌++◌, map, replicate}
use Rattle.wl_desk.specs.Agreeing.{Agrees}
use Rattle.spec_desktop.specs.Act.{Act, Connect, Feed, Store, Leave, Tick, Send, Close, Motion, Button}
use Rattle.spec_desktop.specs.Desktop.{Desktop}
use Rattle.spec_desktop.specs.Happenings.{Happening, Message, Single, Starve, bytes_then_messages}
use Rattle.spec_desktop.specs.Happens.{Happens, Reaches}
use Rattle.spec_desktop.specs.declared.answers.Done.{Done}
use Rattle.wl_session.specs.Events.{AreApart, AreEvents, Event, Moment, frames_of}
use Rattle.wl_session.specs.Liars.{AreLiars, IsRightBut}
use Rattle.wl_session.specs.Run.{Film}
use Rattle.wl_session.specs.Seen.{AreShots, Holds, SeesScratch, seen_after}
use Rattle.wl_session.specs.View.{SessionView}
use Rattle.wl_session.specs.Viewer.{Sight}

-- a session that agrees with a desktop, as a moment
abbrev pub moment : Desktop → SessionView → Moment
moment d v = record { desktop = d; damage = v.damage; frame = v.frame }

-- What a step is: a piece of a stream is its bytes as they come and then so many messages, or running out of memory to keep it, or nothing, as
-- where its client ended; any other step is by itself.
abbrev pub AreParts : Act → Done → List Happening → Type 0
AreParts Connect done parts = parts ≡ Single Connect done ∷ []
AreParts (Feed client piece) done parts =
    (parts ≡ []) ⊎ ((parts ≡ Starve client ∷ []) ⊎ ((n : ℕ) × (parts ≡ bytes_then_messages client piece n)))
AreParts (Store client store at bytes) done parts = parts ≡ Single (Store client store at bytes) done ∷ []
AreParts (Leave client) done parts = parts ≡ Single (Leave client) done ∷ []
AreParts (Tick time) done parts = parts ≡ Single (Tick time) done ∷ []
AreParts (Send client count) done parts = parts ≡ Single (Send client count) done ∷ []
AreParts (Close client) done parts = parts ≡ Single (Close client) done ∷ []
AreParts (Motion time x y) done parts = parts ≡ Single (Motion time x y) done ∷ []
AreParts (Button time button pressed) done parts = parts ≡ Single (Button time button pressed) done ∷ []

abbrev pub happenings : List Event → List Happening
happenings events = map (λ e. e.happening) events

-- A step leads a session on: from the desktop d that agrees before, the step's events lead to one that agrees after. They mark what they
-- have to, and what was right but for some clients stays so but for them and those that break a promise in them.
pub record Course (act : Act) (done : Done) (old new : SessionView) (d : Desktop) : Type 0 where
  pub desktop : Desktop
  pub events : List Event
  pub happens : Happens act done d desktop
  pub parts : AreParts act done (happenings events)
  pub leads : AreEvents (moment d old) events (moment desktop new)
  pub apart : AreApart events
  pub right : (liars last : ℕ → Bool) → AreLiars liars events last → IsRightBut liars (moment d old) → IsRightBut last (moment desktop new)
  pub agrees : Agrees new.desk desktop

abbrev pub TakesCourse : Act → Done → SessionView → SessionView → Type 0
TakesCourse act done old new = (d : Desktop) → Agrees old.desk d → Course act done old new d

-- So many messages of a client were taken, one event after another.
pub record Took (client : ℕ) (old new : SessionView) (d : Desktop) : Type 0 where
  pub count : ℕ
  pub desktop : Desktop
  pub events : List Event
  pub reaches : Reaches client count d desktop
  pub parts : happenings events ≡ replicate count (Message client)
  pub leads : AreEvents (moment d old) events (moment desktop new)
  pub apart : AreApart events
  pub agrees : Agrees new.desk desktop

-- A step leads a session on, and these are the reports of its frames.
abbrev pub LeadsTo : Act → List Film → SessionView → SessionView → Type 0
LeadsTo act films old new =
    (d : Desktop) → Agrees old.desk d → (done : Done) × (course : Course act done old new d) × AreShots (frames_of course.events) films

-- Steps one after another, each with its events, from one moment to another.
abbrev pub Runs : Moment → List Act → List Event → Moment → Type 0
Runs from [] events to = (events ≡ []) × (to ≡ from)
Runs from (act ∷ acts) events to =
    (mid : Moment) × (done : Done) × (first : List Event) × (later : List Event)
    × Happens act done from.desktop mid.desktop × AreParts act done (happenings first) × AreEvents from first mid
    × (events ≡ first ++ later) × Runs mid acts later to

-- These steps lead a session on, and these are the reports of their frames.
pub record Ran (acts : List Act) (films : List Film) (old new : SessionView) (d : Desktop) : Type 0 where
  pub desktop : Desktop
  pub events : List Event
  pub runs : Runs (moment d old) acts events (moment desktop new)
  pub apart : AreApart events
  pub shots : AreShots (frames_of events) films
  pub agrees : Agrees new.desk desktop

abbrev pub TakesSteps : List Act → List Film → SessionView → SessionView → Type 0
TakesSteps acts films old new = (d : Desktop) → Agrees old.desk d → Ran acts films old new d

-- The same, and a viewer that held the frame before it sees each frame painted from nothing, but where those clients' windows cover it for
-- which it wasn't right before, or of which it saw a promise broken. It holds the last frame then, and what was right before but for some
-- clients is so but for them and those that broke a promise: so what comes next is seen too.
abbrev pub IsSeen : List Act → List Film → SessionView → SessionView → Type 0
IsSeen acts films old new =
    (d : Desktop) → Agrees old.desk d
    → (ran : Ran acts films old new d)
    × ((liars : ℕ → Bool) (sight : Sight) → IsRightBut liars (moment d old) → Holds sight old.frame
    → SeesScratch liars sight old.frame ran.events films)
    × ((sight : Sight) → Holds sight old.frame → Holds (seen_after old.frame sight ran.events films) new.frame)
    × ((liars last : ℕ → Bool) → AreLiars liars ran.events last → IsRightBut liars (moment d old)
    → IsRightBut last (moment ran.desktop new))
