-- What is told of events, one after another: the lines of the report, and the images.
use Rattle.std.specs.Prelude.{ℕ, zero, suc, Option, Result, Ok, Err, List, [], ◌∷◌, ◌++◌}
use Rattle.std.specs.Io.KnownBytes.{Appends}
use Rattle.spec_desktop.specs.Act.{Act, Connect, Feed, Store, Leave, Tick, Send, Close, Motion, Button, peer_at, status_of}
use Rattle.spec_desktop.specs.Desktop.{Desktop}
use Rattle.spec_desktop.specs.Happenings.{Happening, Message, Receive, Single, Starve}
use Rattle.spec_desktop.specs.declared.answers.ConnectError.{ConnectError}
use Rattle.spec_desktop.specs.declared.answers.Done.{Done}
use Rattle.spec_desktop.specs.declared.answers.Done.TheVariants as gave
use Rattle.spec_desktop.specs.declared.answers.Fed.{Fed}
use Rattle.spec_desktop.specs.declared.answers.Fed.TheVariants.{Alive, Ended, NoClient}
use Rattle.wl_recording.specs.Text.{client_line, end_line, frame_line}
use Rattle.wl_session.specs.Agreeing.{Agrees}
use Rattle.wl_session.specs.Course.{moment}
use Rattle.wl_session.specs.Damage.{count_points, has}
use Rattle.wl_session.specs.Events.{Event, Moment}
use Rattle.wl_session.specs.Image.{image_of}
use Rattle.wl_session.specs.View.{SessionView}
use Rattle.wl_server.specs.Acting.{Stretch, Went}
use Rattle.wl_server.specs.Recorded.{RecordedView}

-- what is told of one event, from one moment to another
abbrev pub Telling : Type 0
Telling = Happening → Moment → Moment → List ℕ

-- the same of events one after another
abbrev pub gathered : Telling → List Event → List ℕ
gathered tell [] = []
gathered tell (e ∷ es) = tell e.happening e.before e.after ++ gathered tell es

-- how many points are painted for a frame
abbrev pub painted_points : Moment → ℕ
painted_points m = count_points m.damage.width m.damage.height (has m.damage)

-- a frame for which nothing is painted isn't told of
abbrev pub if_painted : ℕ → List ℕ → List ℕ
if_painted zero told = []
if_painted (suc n) told = told

-- ---- the report

-- a client's number, once it connected; nothing where it was refused
abbrev pub connected_line : Result ℕ ConnectError → List ℕ
connected_line (Ok client) = client_line client
connected_line (Err error) = []

abbrev pub connect_line : Done → List ℕ
connect_line (gave.Connect answer) = connected_line answer
connect_line done = []

-- why a client ended that is closed
abbrev pub ended_line : ℕ → Fed → List ℕ
ended_line client (Ended cause) = end_line client cause
ended_line client Alive = []
ended_line client NoClient = []

-- a client that connected, a frame, a client that is closed
abbrev pub line_of : Act → Done → Moment → List ℕ
line_of Connect done before = connect_line done
line_of (Feed client piece) done before = []
line_of (Store client store at bytes) done before = []
line_of (Leave client) done before = []
line_of (Tick time) done before = if_painted (painted_points before) (frame_line time (painted_points before))
line_of (Send client count) done before = []
line_of (Close client) done before = ended_line client (status_of (peer_at client before.desktop))
line_of (Motion time x y) done before = []
line_of (Button time button pressed) done before = []

abbrev pub reported : Telling
reported (Receive client piece) before after = []
reported (Message client) before after = []
reported (Starve client) before after = []
reported (Single act done) before after = line_of act done before

-- ---- the images

-- each frame that is told of
abbrev pub picture_of : Act → Moment → Moment → List ℕ
picture_of Connect before after = []
picture_of (Feed client piece) before after = []
picture_of (Store client store at bytes) before after = []
picture_of (Leave client) before after = []
picture_of (Tick time) before after = if_painted (painted_points before) (image_of after.frame.width after.frame.height after.frame.pixels)
picture_of (Send client count) before after = []
picture_of (Close client) before after = []
picture_of (Motion time x y) before after = []
picture_of (Button time button pressed) before after = []

abbrev pub pictured : Telling
pictured (Receive client piece) before after = []
pictured (Message client) before after = []
pictured (Starve client) before after = []
pictured (Single act done) before after = picture_of act before after

-- ---- what is told of what a session does

-- a report went from one to another, and the images
abbrev pub IsToldOf : Option (List ℕ) → Option (List ℕ) → Option (List ℕ) → Option (List ℕ) → List Event → Type 0
IsToldOf report told images imaged events = Appends report told (gathered reported events)
    × Appends images imaged (gathered pictured events)

-- A session went from old to new by acts of which P holds, its recording by their notes, and the report tells of them.
abbrev pub Reports : {W : Type 0} → (W → Option (List ℕ)) → Stretch → RecordedView W → RecordedView W → Option (List ℕ) → Option (List ℕ) → Type 0
Reports contents P old new report told =
    (d : Desktop) → Agrees old.session.desk d → (acts : List Act) × (went : Went contents acts old new d)
    × P (moment d old.session) acts went.events (moment went.desktop new.session) × Appends report told (gathered reported went.events)

-- The same, and the images show them.
abbrev pub Tells : {W : Type 0} → (W → Option (List ℕ)) → Stretch → RecordedView W → RecordedView W → Option (List ℕ) → Option (List ℕ) → Option (List ℕ) → Option (List ℕ) → Type 0
Tells contents P old new report told images imaged =
    (d : Desktop) → Agrees old.session.desk d → (acts : List Act) × (went : Went contents acts old new d)
    × P (moment d old.session) acts went.events (moment went.desktop new.session) × IsToldOf report told images imaged went.events

-- A frame's line is told, and its picture, wherever it leads from one session to another.
abbrev pub TellsFrame : ℕ → SessionView → SessionView → Option (List ℕ) → Option (List ℕ) → Option (List ℕ) → Option (List ℕ) → Type 0
TellsFrame time old new report told images imaged =
    (d e : Desktop) → Agrees old.desk d → Appends report told (reported (Single (Tick time) gave.Tick) (moment d old) (moment e new))
    × Appends images imaged (pictured (Single (Tick time) gave.Tick) (moment d old) (moment e new))
