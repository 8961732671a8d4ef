-- What happens to a session, one event at a time: what is to be painted again of the desktop, and the last frame, before it and after it.
use Rattle.std.specs.Prelude.{ℕ, ◌≡◌, ◌<◌, ◌||◌, None, Option, pos, Bool, true, false, List, [], ◌∷◌, filter}
use Rattle.wl_paint.specs.Damage.{Damaged, has}
use Rattle.wl_paint.specs.Frame.{Image}
use Rattle.spec_desktop.specs.Act.{Act, Connect, Feed, Store, Leave, Tick, Send, Close, Motion, Button}
pub use Rattle.spec_desktop.specs.Act.{is_tick}
use Rattle.spec_desktop.specs.Desktop.{Desktop, status_in}
use Rattle.spec_desktop.specs.Happenings.{Happening, Leads, Message, Receive, Single, Starve}
use Rattle.spec_desktop.specs.Marks.{AreDistinct}
use Rattle.spec_desktop.specs.Moments.{marks_at_least, marks_at_least_through, marks_at_most_through}
use Rattle.spec_desktop.specs.Stacked.{all_windows}
use Rattle.wl_scene.specs.Marking.{IsAsLarge as HasItsSides}
use Rattle.wl_desk.specs.Leading.{raised_by}
use Rattle.wl_desk.specs.Marking.{MarksAtLeast}
use Rattle.wl_session.specs.Run.{IsNextFrame}

-- a desktop, which points of its output are to be painted again, and the last frame
pub record Moment : Type 0 where
  pub desktop : Desktop
  pub damage : Damaged
  pub frame : Image

-- One thing that happens, from one moment to another, by these desktops: that of its own change, and one after each end and each settling.
pub record Event : Type 0 where
  pub happening : Happening
  pub before : Moment
  pub path : List Desktop
  pub after : Moment

-- ---- damage

-- the same points are to be painted again
abbrev pub IsAsDamaged : Damaged → Damaged → Type 0
IsAsDamaged old new = (x y : ℕ) → x < old.width → y < old.height → has new x y ≡ has old x y

-- Bytes that come, of which no message is taken yet, a newcomer, a store write, bytes that were sent and a number that is given back
-- show nothing new.
abbrev pub is_quiet_act : Act → Bool
is_quiet_act Connect = true
is_quiet_act (Feed client piece) = false
is_quiet_act (Store client store at bytes) = true
is_quiet_act (Leave client) = false
is_quiet_act (Tick time) = false
is_quiet_act (Send client count) = true
is_quiet_act (Close client) = true
is_quiet_act (Motion time x y) = false
is_quiet_act (Button time button pressed) = false

abbrev pub is_quiet : Happening → Bool
is_quiet (Receive client piece) = true
is_quiet (Message client) = false
is_quiet (Starve client) = false
is_quiet (Single act done) = is_quiet_act act

-- Nothing is marked but what was, and what may be: by the step's own change, and by each end and each settling in turn.
abbrev pub MarksFew : Option (ℕ × ℕ) → Desktop → List Desktop → Damaged → Damaged → Type 0
MarksFew raised d path old new =
    (x y : ℕ) → x < old.width → y < old.height → has new x y ≡ true
    → (has old x y || marks_at_most_through all_windows raised d path (pos x) (pos y)) ≡ true

-- What has to be marked by the step's own change, and by each end and each settling in turn, is.
abbrev pub MarksEach : Desktop → List Desktop → Damaged → Damaged → Type 0
MarksEach d path old new =
    (x y : ℕ) → x < old.width → y < old.height → has new x y ≡ false → marks_at_least_through all_windows d path (pos x) (pos y) ≡ false

-- Whatever happens but a frame leaves the last frame. What was to be painted again still is, and so is what has to be marked; nothing else
-- is where nothing new is shown, and no more than may be along the desktops that it leads through.
pub record IsMarked (happening : Happening) (before : Moment) (path : List Desktop) (after : Moment) : Type 0 where
  pub frame : after.frame ≡ before.frame
  pub sides : HasItsSides before.damage after.damage
  pub marks : MarksAtLeast before.desktop after.desktop before.damage after.damage
  pub each : MarksEach before.desktop path before.damage after.damage
  pub most : MarksFew (raised_by happening before.desktop) before.desktop path before.damage after.damage
  pub quiet : is_quiet happening ≡ true → IsAsDamaged before.damage after.damage

-- A frame is shown of the desktop as it was: what was to be painted again is painted, and nothing else. Then clients are told of it, and
-- nothing is to be painted but what that has to mark and may, which is nothing where no client ends.
pub record IsShown (before : Moment) (path : List Desktop) (after : Moment) : Type 0 where
  pub frame : IsNextFrame before.desktop before.frame after.frame (has before.damage)
  pub sides : HasItsSides before.damage after.damage
  pub none :
      ((c : ℕ) → status_in c after.desktop ≡ status_in c before.desktop)
      → (x y : ℕ) → x < before.damage.width → y < before.damage.height → has after.damage x y ≡ false
  pub marks :
      (x y : ℕ) → x < before.damage.width → y < before.damage.height → has after.damage x y ≡ false
      → marks_at_least before.desktop after.desktop (pos x) (pos y) ≡ false
  pub each : MarksEach before.desktop path before.damage after.damage
  pub most :
      (x y : ℕ) → x < before.damage.width → y < before.damage.height → has after.damage x y ≡ true
      → marks_at_most_through all_windows None before.desktop path (pos x) (pos y) ≡ true

-- ---- events

-- a frame is shown
abbrev pub is_frame : Happening → Bool
is_frame (Receive client piece) = false
is_frame (Message client) = false
is_frame (Starve client) = false
is_frame (Single act done) = is_tick act

abbrev pub PaintsIf : Bool → Happening → Moment → List Desktop → Moment → Type 0
PaintsIf true happening before path after = IsShown before path after
PaintsIf false happening before path after = IsMarked happening before path after

-- It may happen, marks what it has to, and shows a frame where it is a tick.
pub record IsEvent (e : Event) : Type 0 where
  pub leads : Leads e.happening e.before.desktop e.path e.after.desktop
  pub paints : PaintsIf (is_frame e.happening) e.happening e.before e.path e.after

-- events one after another, from one moment to another
abbrev pub AreEvents : Moment → List Event → Moment → Type 0
AreEvents from [] to = to ≡ from
AreEvents from (e ∷ es) to = (e.before ≡ from) × IsEvent e × AreEvents e.after es to

-- no surface has two windows, before each of these events and after it
abbrev pub AreApart : List Event → Type 0
AreApart [] = Unit {0}
AreApart (e ∷ es) = AreDistinct (all_windows e.before.desktop) × AreDistinct (all_windows e.after.desktop) × AreApart es

-- those in which a frame is shown
abbrev pub frames_of : List Event → List Event
frames_of events = filter (λ e. is_frame e.happening) events
