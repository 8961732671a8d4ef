-- Short turns, between two frames: clients are served, and a viewer is heard; no line of the pointer's file is taken, and no frame is shown.
use Rattle.std.specs.Prelude.{ℕ, ◌≡◌, ◌≤◌, ◌⊎◌, Bool, false, Option}
use Rattle.wl_recording.specs.Side.{Files}
use Rattle.wl_session.specs.Frame.{Image}
use Rattle.wl_session.specs.Viewer.{Sight}
use Rattle.wl_server.specs.Acting.{Stretch, Then}
use Rattle.wl_server.specs.Phases.{FromFrame, Intake, StartsIn}
use Rattle.wl_server.specs.Sharing.{SharesIn}
use Rattle.wl_server.specs.Viewed.{Hears, IsSeenBy, OnPlace, OnServing, Stage}
use Rattle.wl_server.specs.Watching.{Watching}
use Rattle.wl_server.specs.Ways.{Serving, Ways}

-- The clients are taken in so; then they are written to, one after another; and those of the first n that ended are closed, one after another.
abbrev pub ServesBetween : {H C S : Type 0} → Intake H C S → Ways H C → ℕ → Serving H C S → Serving H C S → Stretch
ServesBetween In w n = Then In (FromFrame w n)

abbrev pub IsShortTurn : {H C S : Type 0} → Ways H C → Files S → Serving H C S → Serving H C S → Stretch
IsShortTurn w files = ServesBetween (SharesIn w files) w 32

-- A short turn begins so: the clients begin to be taken in; or it is gone on until some of them are closed.
abbrev pub StartsBetween : {H C S : Type 0} → Intake H C S → Ways H C → Serving H C S → Serving H C S → Stretch
StartsBetween In w from to start acts events end =
    StartsIn w from to start acts events end ⊎ ((n : ℕ) × (n ≤ 32) × ServesBetween In w n from to start acts events end)

abbrev pub StartsShortTurn : {H C S : Type 0} → Ways H C → Files S → Serving H C S → Serving H C S → Stretch
StartsShortTurn w files = StartsBetween (SharesIn w files) w

-- ---- with a viewer

-- the viewer's lines are taken at this time, and then the clients are served
abbrev pub HearsBetween : {H C S V D : Type 0} → Intake H C S → Ways H C → Ways V D → ℕ → ℕ → ℕ → Bool → Stage H C S V D → Stage H C S V D → Stretch
HearsBetween In w v time width height is_new = Then (OnPlace (Hears v time width height is_new)) (OnServing (ServesBetween In w 32))

-- The promise: whoever held the last frame but for what wasn't told, or anything where the viewer is new, holds it on so.
abbrev pub IsSeenOn : {D : Type 0} → Bool → Option (Watching D) → Option (Watching D) → Image → Image → Type 0
IsSeenOn is_new from to before after = (sight : Sight) → (is_new ≡ false → IsSeenBy sight from before) → IsSeenBy sight to after

-- It is taken, and its promise is kept.
abbrev pub IsShortViewedTurnBy : {H C S V D : Type 0} → Intake H C S → Ways H C → Ways V D → ℕ → ℕ → ℕ → Stage H C S V D → Stage H C S V D → Stretch
IsShortViewedTurnBy In w v time width height from to start acts events end =
    (is_new : Bool) × HearsBetween In w v time width height is_new from to start acts events end
    × IsSeenOn is_new from.1.1 to.1.1 start.frame end.frame

abbrev pub IsShortViewedTurn : {H C S V D : Type 0} → Ways H C → Ways V D → Files S → ℕ → ℕ → ℕ → Stage H C S V D → Stage H C S V D → Stretch
IsShortViewedTurn w v files time width height = IsShortViewedTurnBy (SharesIn w files) w v time width height
