-- What is told, and the stages between which it is told.
use Rattle.std.specs.Prelude.{◌≡◌, ◌+◌, ◌*◌, ◌<◌, ℕ, pos, Bool, false, List, [], ◌++◌, Option}
use Rattle.std.specs.Io.KnownBytes.{Appends}
use Rattle.wl_session.specs.Agreeing.{Agrees}
use Rattle.wl_session.specs.View.{SessionView}
use Rattle.spec_desktop.specs.Act.{Act}
use Rattle.spec_desktop.specs.Desktop.{empty}
use Rattle.spec_desktop.specs.Happens.{Happens}
use Rattle.spec_desktop.specs.Scratch.{scratch}
use Rattle.spec_desktop.specs.Stacked.{all_windows}
use Rattle.spec_desktop.specs.declared.answers.Done.{Done}
use Rattle.wl_session.specs.Course.{AreParts, happenings}
use Rattle.wl_session.specs.Damage.{has}
use Rattle.wl_session.specs.Events.{AreApart, AreEvents, Event, Moment}
use Rattle.wl_session.specs.Frame.{color_at, filled}
use Rattle.wl_session.specs.Liars.{AreLiars, IsRightBut, nobody}
use Rattle.wl_session.specs.Unmarked.{is_covered}
use Rattle.wl_session.specs.Config.{Config}

-- what is told: the report, the images of the frames, how many frames there were, and how many clients connected
pub record Told : Type 0 where
  pub text : List ℕ
  pub images : List ℕ
  pub frames : ℕ
  pub clients : ℕ

abbrev pub words : List ℕ → Told
words text = record { text = text; images = []; frames = 0; clients = 0 }

-- one thing is told, and then another
abbrev pub and_then : Told → Told → Told
and_then a b =
    record { text = a.text ++ b.text; images = a.images ++ b.images; frames = a.frames + b.frames; clients = a.clients + b.clients }

-- What has happened so far: all events from the first moment on, and the moment now.
pub record Stage : Type 0 where
  pub first : Moment
  pub events : List Event
  pub now : Moment

-- A session stands for a stage: its events led from the first moment, at which the image was the desktop painted from nothing, to now.
pub record Stands (session : SessionView) (stage : Stage) : Type 0 where
  pub desk : Agrees session.desk stage.now.desktop
  pub damage : session.damage ≡ stage.now.damage
  pub frame : session.frame ≡ stage.now.frame
  pub right : IsRightBut nobody stage.first
  pub led : AreEvents stage.first stage.events stage.now
  pub apart : AreApart stage.events

-- At first nothing has happened: there is no client, the image is the background, and nothing is to be painted.
pub record IsFirst (config : Config) (stage : Stage) : Type 0 where
  pub events : stage.events ≡ []
  pub now : stage.now ≡ stage.first
  pub desktop : stage.now.desktop ≡ empty (record { width = config.width; height = config.height })
  pub frame :
      stage.now.frame
      ≡ record {
        width = config.width;
        height = config.height;
        background = config.background;
        pixels = filled (config.width * config.height) config.background;
      }
  pub damage : (x y : ℕ) → has stage.now.damage x y ≡ false

-- A step leads from one stage to another: it happens, and its events are the next ones.
pub record Steps (act : Act) (done : Done) (old new : Stage) : Type 0 where
  pub happens : Happens act done old.now.desktop new.now.desktop
  pub events : List Event
  pub parts : AreParts act done (happenings events)
  pub leads : AreEvents old.now events new.now
  pub later : new.events ≡ old.events ++ events
  pub first : new.first ≡ old.first

-- The frame of a tick is the desktop as the tick began, painted from nothing, at each point that no window covers of a client that broke a
-- promise since it connected.
abbrev pub IsSeenAt : Stage → Stage → Type 0
IsSeenAt old new =
    (broke : ℕ → Bool) (x y : ℕ) → AreLiars nobody new.events broke → x < old.now.frame.width → y < old.now.frame.height
    → is_covered all_windows broke old.now.desktop (pos x) (pos y) ≡ false
    → color_at new.now.frame x y ≡ scratch old.now.frame.background old.now.desktop (pos x) (pos y)

-- A session goes from before to after by R: whatever stage it stands for before, it stands for one that R gives after. What is
-- told of it was written, and P holds of it.
abbrev pub Leads : (Stage → Told → Stage → Type 0) → SessionView → SessionView → Option (List ℕ) → Option (List ℕ) → (Told → Type 0)
    → Type 0
Leads R before after report reported P =
    (old : Stage) → Stands before old → (new : Stage) × (told : Told) × R old told new × Stands after new
    × Appends report reported told.text × P told

-- the images that are told were appended, and so many frames and clients are told of
abbrev pub Counts : Option (List ℕ) → Option (List ℕ) → ℕ → ℕ → Told → Type 0
Counts images imaged frames clients told = Appends images imaged told.images × (told.frames ≡ frames) × (told.clients ≡ clients)

-- no image and no frame is told of, and so many clients
abbrev pub IsSilent : ℕ → Told → Type 0
IsSilent clients told = (told.images ≡ []) × (told.frames ≡ 0) × (told.clients ≡ clients)
