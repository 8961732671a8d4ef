-- Incremental equals from scratch: what a viewer holds that copies only what each frame reports as damaged.
use Rattle.std.specs.Prelude.{ℕ, ◌≡◌, ◌<◌, pos, Bool, true, false, fold, length, take, List, [], ◌∷◌, ◌++◌}
use Rattle.spec_desktop.specs.Told.{Output}
use Rattle.wl_paint.specs.Damage.{has}
use Rattle.wl_paint.specs.Frame.{Image, color_at}
use Rattle.spec_desktop.specs.Act.{Tick}
use Rattle.spec_desktop.specs.Desktop.{empty}
use Rattle.spec_desktop.specs.Happenings.{Single}
use Rattle.spec_desktop.specs.Scratch.{scratch}
use Rattle.spec_desktop.specs.Stacked.{all_windows}
use Rattle.spec_desktop.specs.declared.answers.Done.TheVariants as gave
use Rattle.wl_session.specs.Events.{AreApart, AreEvents, Event, Moment, frames_of, is_frame}
use Rattle.wl_session.specs.Liars.{AreLiars, IsRightBut}
use Rattle.wl_session.specs.Run.{AreRuns, Film}
use Rattle.wl_session.specs.Unmarked.{is_covered}
use Rattle.wl_session.specs.Viewer.{Sight, copied}

-- A report of a frame: its time, the runs of exactly what was painted for it, and its pixels.
pub record IsShot (e : Event) (film : Film) : Type 0 where
  pub time : e.happening ≡ Single (Tick film.time) gave.Tick
  pub runs : AreRuns e.before.frame.width e.before.frame.height (has e.before.damage) film.runs
  pub pixels : film.pixels ≡ e.after.frame.pixels

-- one of each frame, in their order
abbrev pub AreShots : List Event → List Film → Type 0
AreShots [] [] = Unit {0}
AreShots (e ∷ es) (film ∷ films) = IsShot e film × AreShots es films
AreShots [] (film ∷ films) = ⊥
AreShots (e ∷ es) [] = ⊥

-- a viewer holds this image
abbrev pub Holds : Sight → Image → Type 0
Holds sight image = (x y : ℕ) → x < image.width → y < image.height → sight x y ≡ color_at image x y

-- what a viewer holds that held this, and then copied the runs of the frames in these events
abbrev pub seen_after : Image → Sight → List Event → List Film → Sight
seen_after first sight events films = fold (copied first.width) sight (take (length (frames_of events)) films)

-- At each frame among these events a viewer that copied only the runs of each report, up to that frame's own, holds every window painted
-- from nothing in stacking order, subsurfaces and popups too, of the desktop as the frame began: at each point of the output that no window
-- covers of a client that broke its promises since it connected.
abbrev pub SeesScratch : (ℕ → Bool) → Sight → Image → List Event → List Film → Type 0
SeesScratch liars sight first events films =
    (before : List Event) (frame : Event) (later : List Event) (broke : ℕ → Bool) (x y : ℕ)
    → events ≡ before ++ frame ∷ later → is_frame frame.happening ≡ true → AreLiars liars (before ++ frame ∷ []) broke
    → x < first.width → y < first.height → is_covered all_windows broke frame.before.desktop (pos x) (pos y) ≡ false
    → seen_after first sight (before ++ frame ∷ []) films x y ≡ scratch first.background frame.before.desktop (pos x) (pos y)

-- ---- laws

-- What is right but for some clients stays so but for them and those that break a promise, where no surface has two windows.
abbrev pub StaysRight : Type 0
StaysRight =
    (from to : Moment) (events : List Event) (liars last : ℕ → Bool)
    → AreApart events → AreEvents from events to → AreLiars liars events last → IsRightBut liars from → IsRightBut last to

-- Whatever happens from a desktop without clients on, a viewer sees each frame painted from nothing.
abbrev pub SeenIsScratch : Type 0
SeenIsScratch =
    (output : Output) (from to : Moment) (events : List Event) (films : List Film) (liars : ℕ → Bool) (sight : Sight)
    → from.desktop ≡ empty output → AreEvents from events to → AreShots (frames_of events) films
    → IsRightBut liars from → Holds sight from.frame
    → SeesScratch liars sight from.frame events films
