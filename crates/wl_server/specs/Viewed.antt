-- A turn with a viewer, and what it promises: whoever copies each whole update holds the frame of the tick at its time.
use Rattle.std.specs.Prelude.{ℕ, ◌≡◌, ⊤, Bool, true, false, Option, None, Some}
use Rattle.wl_recording.specs.Side.{Files}
use Rattle.wl_session.specs.Frame.{Image}
use Rattle.wl_session.specs.Seen.{Holds}
use Rattle.wl_session.specs.Viewer.{Sight}
use Rattle.wl_viewer.specs.Copying.{copied_update}
use Rattle.wl_viewer.specs.Laws.{IsSeenBut}
use Rattle.wl_viewer.specs.Telling.{Update}
use Rattle.wl_server.specs.Acting.{Idle, Stretch, Then}
use Rattle.wl_server.specs.Phases.{FromFrame, Intake, Pointing, TakesIn}
use Rattle.wl_server.specs.Watching.{AcceptsOne, Attends, Place, Rests, ShowsTo, TellsOf, Watching}
use Rattle.wl_server.specs.Ways.{Serving, Ways}

-- all that the server works on beside its session, and the viewer's place
abbrev pub Stage : Type 0 → Type 0 → Type 0 → Type 0 → Type 0 → Type 0
Stage H C S V D = Serving H C S × Place V D

-- what is done to the one of them leaves the other
abbrev pub OnServing : {H C S V D : Type 0} → (Serving H C S → Serving H C S → Stretch) → Stage H C S V D → Stage H C S V D → Stretch
OnServing P from to start acts events end = P from.0 to.0 start acts events end × (to.1 ≡ from.1)

abbrev pub OnPlace : {H C S V D : Type 0} → (Place V D → Place V D → Stretch) → Stage H C S V D → Stage H C S V D → Stretch
OnPlace P from to start acts events end = P from.1 to.1 start acts events end × (to.0 ≡ from.0)

-- ---- the viewer's lines are taken

-- a connection may get the place
abbrev pub Welcomes : {V D : Type 0} → Ways V D → ℕ → ℕ → Bool → Place V D → Place V D → Stretch
Welcomes v width height is_new from to start acts events end = Rests start acts events end × AcceptsOne v width height is_new from to

-- who got the place is served
abbrev pub AttendsIf : {V D : Type 0} → Bool → Ways V D → ℕ → Place V D → Place V D → Stretch
AttendsIf true v time from to start acts events end = Attends v time from to start acts events end
AttendsIf false v time from to start acts events end = Idle from to start acts events end

-- The viewer is served; then a connection that waits may get the place, and is served too.
abbrev pub Hears : {V D : Type 0} → Ways V D → ℕ → ℕ → ℕ → Bool → Place V D → Place V D → Stretch
Hears v time width height is_new = Then (Attends v time) (Then (Welcomes v width height is_new) (AttendsIf is_new v time))

-- ---- the turn

-- Up to the frame, with it: the clients are taken in so; and a frame is shown, of which the viewer is told.
abbrev pub UpToViewed : {H C S V D : Type 0} → Intake H C S → ℕ → Option Update → Stage H C S V D → Stage H C S V D → Stretch
UpToViewed In time update = Then (OnServing In) (OnPlace (ShowsTo time update))

-- the clients are served, up to the frame and from it on
abbrev pub ServesViewed : {H C S V D : Type 0} → Intake H C S → Ways H C → ℕ → ℕ → Option Update → Stage H C S V D → Stage H C S V D → Stretch
ServesViewed In w time n update = Then (UpToViewed In time update) (OnServing (FromFrame w n))

-- what is held of an update, if one is made
abbrev pub copied_by : Sight → Option Update → Sight
copied_by sight None = sight
copied_by sight (Some update) = copied_update sight update

-- Who has the viewer's place holds the last frame, but for what wasn't told: nothing is said of one that failed.
abbrev pub IsSeenBy : {D : Type 0} → Sight → Option (Watching D) → Image → Type 0
IsSeenBy sight None frame = ⊤
IsSeenBy sight (Some watching) frame =
    watching.has_failed ≡ false → watching.viewer.untold.width ≡ frame.width → watching.viewer.untold.height ≡ frame.height
    → IsSeenBut watching.viewer.untold sight frame

-- The promise: whoever held the last frame but for what wasn't told, or anything where the viewer is new, and copies the update of this turn, if one is
-- made, holds the whole frame of its tick, which is at the update's time; and holds the last frame on, but for what wasn't told.
pub record IsViewed {D : Type 0} (is_new : Bool) (time : ℕ) (update : Option Update) (from to : Option (Watching D)) (before after : Image) : Type 0 where
  pub holds :
      (sight : Sight) (told : Update) → (is_new ≡ false → IsSeenBy sight from before) → update ≡ Some told
      → (told.time ≡ time) × Holds (copied_update sight told) after
  pub goes_on : (sight : Sight) → (is_new ≡ false → IsSeenBy sight from before) → IsSeenBy (copied_by sight update) to after

-- First the pointer does what its file says; then the viewer's lines are taken; then all clients are served, and the viewer is told of the frame; and
-- at last the viewer is answered and written to.
abbrev pub TakesTurn : {H C S V D : Type 0} → Intake H C S → Ways H C → Ways V D → ℕ → ℕ → ℕ → Bool → Option Update → Stage H C S V D → Stage H C S V D → Stretch
TakesTurn In w v time width height is_new update =
    Then (OnServing (Pointing time))
    (Then (OnPlace (Hears v time width height is_new)) (Then (ServesViewed In w time 32 update) (OnPlace (TellsOf v time))))

-- A turn is taken, and its promise is kept.
abbrev pub IsViewedTurnBy : {H C S V D : Type 0} → Intake H C S → Ways H C → Ways V D → ℕ → ℕ → ℕ → Stage H C S V D → Stage H C S V D → Stretch
IsViewedTurnBy In w v time width height from to start acts events end =
    (is_new : Bool) × (update : Option Update) × TakesTurn In w v time width height is_new update from to start acts events end
    × IsViewed is_new time update from.1.1 to.1.1 start.frame end.frame

abbrev pub IsViewedTurn : {H C S V D : Type 0} → Ways H C → Ways V D → Files S → ℕ → ℕ → ℕ → Stage H C S V D → Stage H C S V D → Stretch
IsViewedTurn w v files time width height = IsViewedTurnBy (TakesIn w files) w v time width height
