-- What a session does, as acts of the plain desktop and the events that they are.
use Rattle.std.specs.Prelude.{ℕ, zero, suc, ◌≡◌, ◌<◌, pos, Bool, true, false, List, [], ◌∷◌, ◌++◌, Option}
use Rattle.wl_session.specs.Frame.{color_at}
use Rattle.spec_desktop.specs.Act.{Act}
use Rattle.spec_desktop.specs.Desktop.{Desktop}
use Rattle.spec_desktop.specs.Scratch.{scratch}
use Rattle.spec_desktop.specs.Stacked.{all_windows}
use Rattle.wl_session.specs.Agreeing.{Agrees}
use Rattle.wl_session.specs.Course.{Runs, moment}
use Rattle.wl_session.specs.Events.{AreApart, Event, Moment, is_frame}
use Rattle.wl_session.specs.Liars.{AreLiars, IsRightBut}
use Rattle.wl_session.specs.Unmarked.{is_covered}
use Rattle.wl_server.specs.Recorded.{GoesOn, OnBoth, RecordedView}

-- These acts lead a session from old to new, one event after another: from the desktop d that agrees before to one that agrees after. What
-- each of them may do, has to mark and shows is said of a session's runs. Its recording, if there is one, goes on by the notes of these acts.
pub record Went {W : Type 0} (contents : W → Option (List ℕ)) (acts : List Act) (old new : RecordedView W) (d : Desktop) : Type 0 where
  pub desktop : Desktop
  pub events : List Event
  pub runs : Runs (moment d old.session) acts events (moment desktop new.session)
  pub apart : AreApart events
  pub agrees : Agrees new.session.desk desktop
  pub noted : OnBoth (GoesOn contents (moment d old.session) acts events (moment desktop new.session)) old.recording new.recording

-- What is said of a stretch of a session: of the moment that it begins at, its acts, the events that they are, and the moment that it
-- ends at.
abbrev pub Stretch : Type 1
Stretch = Moment → List Act → List Event → Moment → Type 0

-- A session went from old to new by acts of which P holds, whatever desktop agrees with it before, and its recording by their notes.
abbrev pub Takes : {W : Type 0} → (W → Option (List ℕ)) → Stretch → RecordedView W → RecordedView W → Type 0
Takes contents P old new =
    (d : Desktop) → Agrees old.session.desk d → (acts : List Act) × (went : Went contents acts old new d)
    × P (moment d old.session) acts went.events (moment went.desktop new.session)

-- Each frame among these events shows the desktop as the frame began, painted from nothing in stacking order, at each point that no window
-- covers of a client that broke its promises since it connected.
abbrev pub ShowsScratch : (ℕ → Bool) → List Event → Type 0
ShowsScratch liars events =
    (before : List Event) (frame : Event) (later : List Event) (broke : ℕ → Bool) (x y : ℕ)
    → events ≡ before ++ frame ∷ later → is_frame frame.happening ≡ true → AreLiars liars (before ++ frame ∷ []) broke
    → x < frame.before.frame.width → y < frame.before.frame.height
    → is_covered all_windows broke frame.before.desktop (pos x) (pos y) ≡ false
    → color_at frame.after.frame x y ≡ scratch frame.before.frame.background frame.before.desktop (pos x) (pos y)

-- A session went so from old to new by acts of which P holds, and of their events Q. Where it was right but for some clients, its frames are,
-- and it stays so but for them and those that break a promise meanwhile.
abbrev pub IsServed : {W : Type 0} → (W → Option (List ℕ)) → Stretch → (List Event → Type 0) → RecordedView W → RecordedView W → Type 0
IsServed contents P Q old new =
    (d : Desktop) → Agrees old.session.desk d
    → (acts : List Act) × (went : Went contents acts old new d) × P (moment d old.session) acts went.events (moment went.desktop new.session) × Q went.events
    × ((liars : ℕ → Bool) → IsRightBut liars (moment d old.session) → ShowsScratch liars went.events)
    × ((liars last : ℕ → Bool) → AreLiars liars went.events last → IsRightBut liars (moment d old.session)
    → IsRightBut last (moment went.desktop new.session))

-- ---- what is done to what a server works on, while a session goes on

-- nothing is done
pub record Idle {W : Type 0} (from to : W) (start : Moment) (acts : List Act) (events : List Event) (end : Moment) : Type 0 where
  pub kept : to ≡ from
  pub acts_are : acts ≡ []
  pub events_are : events ≡ []
  pub stays : end ≡ start

-- First the one is done, and then the other: over what the first leaves, and from the moment to which its acts lead.
pub record Then {W : Type 0} (First Next : W → W → Stretch) (from to : W) (start : Moment) (acts : List Act) (events : List Event) (end : Moment) : Type 0 where
  pub mid : W
  pub moment : Moment
  pub first : List Act
  pub next : List Act
  pub early : List Event
  pub late : List Event
  pub leads : Runs start first early moment
  pub goes_on : Runs moment next late end
  pub does : First from mid start first early moment
  pub follows : Next mid to moment next late end
  pub acts_are : acts ≡ first ++ next
  pub events_are : events ≡ early ++ late

-- What each of the first n does, from 1, one after another.
unfoldable pub InTurn : {W : Type 0} → (ℕ → W → W → Stretch) → ℕ → W → W → Stretch
InTurn Own zero from to start acts events end = Idle from to start acts events end
InTurn Own (suc n) from to start acts events end = Then (InTurn Own n) (Own (suc n)) from to start acts events end
