-- What a recording leads to, and the report and the images that tell of it.
use Rattle.std.specs.Prelude.{◌≡◌, ◌+◌, ℕ, ℤ, Bool, Option, Some, None, Result, Ok, Err, List, [], ◌∷◌, ◌++◌, length, ◌⊎◌, ◌≤◌, ⊤}
use Rattle.std.specs.Io.KnownBytes.{Appends, IsAtEnd}
use Rattle.wl_session.specs.View.{SessionView}
use Rattle.wl_session.specs.Damage.{count_points, has}
use Rattle.spec_desktop.specs.Desktop.{Desktop}
use Rattle.wl_session.specs.Image.{image_of}
use Rattle.spec_desktop.specs.Act as act
use Rattle.spec_desktop.specs.Act.{peer_at, status_of}
use Rattle.spec_desktop.specs.declared.answers.ConnectError.{ConnectError}
use Rattle.spec_desktop.specs.declared.answers.ConnectError.TheVariants.{Full, Memory}
use Rattle.spec_desktop.specs.declared.answers.Done.{Done}
use Rattle.spec_desktop.specs.declared.answers.Done.TheVariants as gave
use Rattle.spec_desktop.specs.declared.answers.Fed.{Fed}
use Rattle.spec_desktop.specs.declared.answers.Fed.TheVariants.{Alive, Ended, NoClient}
use Rattle.wl_recording.specs.declared.error.ReplayError.{ReplayError}
use Rattle.wl_recording.specs.declared.error.ReplayError.TheVariants as error
use Rattle.wl_recording.specs.declared.error.Summary.{Summary}
use Rattle.wl_replay.specs.Clients.{TellsFirst}
use Rattle.wl_recording.specs.Line.{Asked, Connect, Bytes, Store, File, Gone, Motion, Button, Tick, Nothing, asked_by}
use Rattle.wl_recording.specs.Lines.{IsTooLong, TakesLine}
use Rattle.wl_recording.specs.Side.{Files}
use Rattle.wl_replay.specs.Storing.{LacksFile, TellsFile, TellsStore}
use Rattle.wl_recording.specs.Text.{client_line, frame_line, full_line, none_line}
use Rattle.wl_replay.specs.Told.{IsSeenAt, Leads, Stage, Steps, Told, and_then, words}

-- what a connect tells, unless it ran out of memory
abbrev pub connect_told : Result ℕ ConnectError → Option Told
connect_told (Ok client) = Some (record { text = client_line client; images = []; frames = 0; clients = 1 })
connect_told (Err Full) = Some (words full_line)
connect_told (Err Memory) = None

-- what is told of a client that isn't there
abbrev pub absent_text : ℕ → Fed → List ℕ
absent_text client NoClient = none_line client
absent_text client Alive = []
absent_text client (Ended cause) = []

-- The step that each kind of line asks, and what is told of it.
abbrev pub TellsConnect : Stage → Told → Stage → Type 0
TellsConnect old told new =
    (answer : Result ℕ ConnectError) × Steps act.Connect (gave.Connect answer) old new
    × (connect_told answer ≡ Some told)

abbrev pub TellsBytes : ℕ → List ℕ → Stage → Told → Stage → Type 0
TellsBytes client piece old told new =
    (done : Done) × Steps (act.Feed client piece) done old new
    × (told ≡ words (absent_text client (status_of (peer_at client old.now.desktop))))

abbrev pub TellsGone : ℕ → Stage → Told → Stage → Type 0
TellsGone client old told new =
    (done : Done) × Steps (act.Leave client) done old new
    × (told ≡ words (absent_text client (status_of (peer_at client old.now.desktop))))

-- The pointer moves, which isn't told of itself.
abbrev pub TellsMotion : ℕ → ℤ → ℤ → Stage → Told → Stage → Type 0
TellsMotion time x y old told new = Steps (act.Motion time x y) gave.Motion old new × (told ≡ words [])

-- A button is pressed or released, which isn't told of itself.
abbrev pub TellsButton : ℕ → ℕ → Bool → Stage → Told → Stage → Type 0
TellsButton time code pressed old told new = Steps (act.Button time code pressed) gave.Button old new × (told ≡ words [])

-- A frame: `n` is how many points were to be painted, and the image is the frame's, which is the desktop painted from nothing.
abbrev pub TellsTick : ℕ → Stage → Told → Stage → Type 0
TellsTick time old told new =
    Steps (act.Tick time) gave.Tick old new × IsSeenAt old new
    × (told ≡ record {
      text = frame_line time (count_points old.now.damage.width old.now.damage.height (has old.now.damage));
      images = image_of new.now.frame.width new.now.frame.height new.now.frame.pixels;
      frames = 1;
      clients = 0;
    })

abbrev pub TellsNothing : Stage → Told → Stage → Type 0
TellsNothing old told new = (told ≡ words []) × (new ≡ old)

-- What a line asks leads from old to new, and the side files from one state to another. Only a file's line touches them.
abbrev pub TellsStep : {S : Type 0} → Files S → Asked → S → S → Stage → Told → Stage → Type 0
TellsStep files Connect from to old told new = TellsConnect old told new × (to ≡ from)
TellsStep files (Bytes client piece) from to old told new = TellsBytes client piece old told new × (to ≡ from)
TellsStep files (Store place bytes) from to old told new = TellsStore place bytes old told new × (to ≡ from)
TellsStep files (File place name) from to old told new = TellsFile files place name from to old told new
TellsStep files (Gone client) from to old told new = TellsGone client old told new × (to ≡ from)
TellsStep files (Motion time x y) from to old told new = TellsMotion time x y old told new × (to ≡ from)
TellsStep files (Button time code pressed) from to old told new = TellsButton time code pressed old told new × (to ≡ from)
TellsStep files (Tick time) from to old told new = TellsTick time old told new × (to ≡ from)
TellsStep files Nothing from to old told new = TellsNothing old told new × (to ≡ from)

-- A step, and then what each of the clients 1 to 32 is sent and whether it ended.
abbrev pub TellsAll : {S : Type 0} → Files S → Asked → S → S → Stage → Told → Stage → Type 0
TellsAll files asked from to old told new =
    (mid : Stage) × (own : Told) × (rest : List ℕ) × TellsStep files asked from to old own mid × TellsFirst 32 mid rest new
    × (told ≡ and_then own (words rest))

-- A line leads from old to new, and this is told of it. A line that asks nothing is passed over.
abbrev pub TellsLine : {S : Type 0} → Files S → Asked → S → S → Stage → Told → Stage → Type 0
TellsLine files Nothing from to old told new = TellsStep files Nothing from to old told new
TellsLine files Connect from to old told new = TellsAll files Connect from to old told new
TellsLine files (Bytes client piece) from to old told new = TellsAll files (Bytes client piece) from to old told new
TellsLine files (Store place bytes) from to old told new = TellsAll files (Store place bytes) from to old told new
TellsLine files (File place name) from to old told new = TellsAll files (File place name) from to old told new
TellsLine files (Gone client) from to old told new = TellsAll files (Gone client) from to old told new
TellsLine files (Motion time x y) from to old told new = TellsAll files (Motion time x y) from to old told new
TellsLine files (Button time code pressed) from to old told new = TellsAll files (Button time code pressed) from to old told new
TellsLine files (Tick time) from to old told new = TellsAll files (Tick time) from to old told new

-- These lines lead from the first stage to the last, and the side files from one state to another, and this is told of it. The
-- newest line stands last.
pub data Tells {S : Type 0} (files : Files S) (first : Stage) (from : S) : List (List ℕ) → Told → Stage → S → Type 0 where
  none : Tells files first from [] (words []) first from
  more : (lines : List (List ℕ)) (told own : Told) (mid last : Stage) (between to : S) (line : List ℕ) (asked : Asked)
      → Tells files first from lines told mid between → asked_by line ≡ Some asked → TellsLine files asked between to mid own last
      → Tells files first from (lines ++ line ∷ []) (and_then told own) last to

-- The known bytes begin with these lines of at most 140,000 bytes, and lose them. The newest line stands last.
pub data Reads (first : Option (List ℕ)) : List (List ℕ) → Option (List ℕ) → Type 0 where
  none : Reads first [] first
  more : (lines : List (List ℕ)) (mid last : Option (List ℕ)) (line : List ℕ) → Reads first lines mid → TakesLine mid last line
      → length line ≤ 140000 → Reads first (lines ++ line ∷ []) last

-- At most 1,000,000 lines were read, what they lead to was told in a report and in images, no side file failed, and this is
-- left to be read.
pub record Reported {S : Type 0} (files : Files S) (first : Stage) (from to : S)
    (read left report reported images imaged : Option (List ℕ)) : Type 0 where
  pub lines : List (List ℕ)
  pub told : Told
  pub last : Stage
  pub few : length lines ≤ 1000000
  pub reads : Reads read lines left
  pub tells : Tells files first from lines told last to
  pub calm : files.faults to ≡ files.faults from
  pub written : Appends report reported told.text
  pub shown : Appends images imaged told.images

-- as many lines as there may be were read, and there is one more
abbrev pub IsPastLast : ℕ → Option (List ℕ) → Type 0
IsPastLast lines left = (lines ≡ 1000000) × (line : List ℕ) × (rest : Option (List ℕ)) × TakesLine left rest line

-- the next line is too long, or no line of a recording
abbrev pub IsBadLine : Option (List ℕ) → Type 0
IsBadLine left = IsTooLong 140000 left ⊎ ((line : List ℕ) × (rest : Option (List ℕ)) × TakesLine left rest line × (asked_by line ≡ None))

-- the file that a line asks for isn't there, or failed
abbrev pub LacksAsked : {S : Type 0} → Files S → Asked → Desktop → S → S → Type 0
LacksAsked files (File place name) d from to = LacksFile files place name d from to
LacksAsked files Connect d from to = ⊥
LacksAsked files (Bytes client piece) d from to = ⊥
LacksAsked files (Store place bytes) d from to = ⊥
LacksAsked files (Gone client) d from to = ⊥
LacksAsked files (Motion time x y) d from to = ⊥
LacksAsked files (Button time code pressed) d from to = ⊥
LacksAsked files (Tick time) d from to = ⊥
LacksAsked files Nothing d from to = ⊥

-- the next line asks for such a file
abbrev pub IsLackingLine : {S : Type 0} → Files S → Option (List ℕ) → Desktop → S → S → Type 0
IsLackingLine files left d from to =
    (line : List ℕ) × (asked : Asked) × (rest : Option (List ℕ)) × TakesLine left rest line × (asked_by line ≡ Some asked)
    × LacksAsked files asked d from to

-- one line was taken and told of
abbrev pub TakesOne : {S : Type 0} → Files S → S → S → Option (List ℕ) → Option (List ℕ) → SessionView → SessionView → Option (List ℕ)
    → Option (List ℕ) → (Told → Type 0) → Type 0
TakesOne files from to read left before after report reported P =
    (line : List ℕ) × (asked : Asked) × TakesLine read left line × (length line ≤ 140000) × (asked_by line ≡ Some asked)
    × Leads (TellsLine files asked from to) before after report reported P × (files.faults to ≡ files.faults from)

-- The line of this number wasn't played. Where the recording is at fault, or could not be read, nothing of it was done.
abbrev pub FailsAt : ReplayError → ℕ → Option (List ℕ) → Type 0 → Type 0 → Type 0
FailsAt error.Read number left IsQuiet IsLacking = IsQuiet
FailsAt error.Write number left IsQuiet IsLacking = ⊤
FailsAt (error.BadLine n) number left IsQuiet IsLacking = (n ≡ number) × IsBadLine left × IsQuiet
FailsAt (error.Side n) number left IsQuiet IsLacking = (n ≡ number) × IsLacking
FailsAt error.Memory number left IsQuiet IsLacking = ⊤

-- The whole recording was read and told of, and this is its summary.
abbrev pub IsPlayed : {S : Type 0} → Files S → Stage → S → S → Summary → Option (List ℕ) → Option (List ℕ) → Option (List ℕ)
    → Option (List ℕ) → Option (List ℕ) → Type 0
IsPlayed files first from to summary read report reported images imaged =
    (left : Option (List ℕ)) × (r : Reported files first from to read left report reported images imaged) × IsAtEnd left
    × (summary ≡ record { lines = length r.lines; frames = r.told.frames; clients = r.told.clients })

-- The recording was played up to a line. A bad one is named by its number from 1; a line past the greatest number of lines is
-- bad too. So is one whose side file isn't there or failed, of which nothing is told. Nothing is said of what was told where the
-- report or the images could not be written, or memory was wanted.
abbrev pub StopsAs : {S : Type 0} → Files S → ReplayError → Stage → S → S → Option (List ℕ) → Option (List ℕ) → Option (List ℕ)
    → Option (List ℕ) → Option (List ℕ) → Type 0
StopsAs {S} files error.Read first from to read report reported images imaged =
    (left : Option (List ℕ)) × Reported files first from to read left report reported images imaged
StopsAs {S} files error.Write first from to read report reported images imaged = ⊤
StopsAs {S} files (error.BadLine n) first from to read report reported images imaged =
    (left : Option (List ℕ)) × (r : Reported files first from to read left report reported images imaged) × (n ≡ length r.lines + 1)
    × (IsPastLast (length r.lines) left ⊎ IsBadLine left)
StopsAs {S} files (error.Side n) first from to read report reported images imaged =
    (left : Option (List ℕ)) × (between : S) × (r : Reported files first from between read left report reported images imaged)
    × (n ≡ length r.lines + 1) × IsLackingLine files left r.last.now.desktop between to
StopsAs {S} files error.Memory first from to read report reported images imaged = ⊤
