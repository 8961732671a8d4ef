-- Frames and their reports, and why a run of steps stops.
use Rattle.std.specs.List.{list_any}
use Rattle.std.specs.Prelude.{ℕ, ◌≡◌, ◌+◌, ◌<◌, ◌≤◌, ◌⊎◌, pos, List, [], ◌∷◌, slice_get, Bool, true, false, ◌&&◌, ◌==◌, nat_le, nat_lt}
use Rattle.std.specs.Prelude.{IsTrue, IsSomeAnd}
use Rattle.wl_paint.specs.Frame.{Image, color_at}
use Rattle.spec_desktop.specs.Desktop.{Desktop}
use Rattle.wl_clients.specs.Painting.{IsOpaqueAsSaid}
use Rattle.spec_desktop.specs.Scratch.{scratch}
use Rattle.spec_desktop.specs.Act.{Act, Connect, Feed, Store, Leave, Tick, Send, Close, Motion, Button}
use Rattle.wl_session.specs.Step.{act_of}
use Rattle.wl_session.specs.declared.steps.Step.{Step}
use Rattle.wl_session.specs.declared.steps.RunError.{RunError}
use Rattle.wl_session.specs.declared.steps.RunError.TheVariants.{Memory}
use Rattle.wl_session.specs.declared.shots.Run.{Run}
use Rattle.wl_session.specs.declared.shots.Shot.{Shot}

-- a frame is as large as another, with the same background
pub record IsAsLarge (before after : Image) : Type 0 where
  pub width : after.width ≡ before.width
  pub height : after.height ≡ before.height
  pub background : after.background ≡ before.background

-- A frame of a desktop follows another: what is damaged is painted from nothing, where each window is opaque that is said to be, and the
-- pixels outside the damage are those of the frame before.
pub record IsNextFrame (d : Desktop) (before after : Image) (damaged : ℕ → ℕ → Bool) : Type 0 where
  pub large : IsAsLarge before after
  pub painted : (x y : ℕ) → x < before.width → y < before.height → damaged x y ≡ true → IsOpaqueAsSaid d (pos x) (pos y)
      → color_at after x y ≡ scratch before.background d (pos x) (pos y)
  pub kept : (x y : ℕ) → x < before.width → y < before.height → damaged x y ≡ false → color_at after x y ≡ color_at before x y

-- a frame as it is reported: when, which runs of pixels were painted, and the bytes of the whole image
pub record Film : Type 0 where
  pub time : ℕ
  pub runs : List Run
  pub pixels : List ℕ

abbrev pub film_of : {A : Type 0} → Shot A → Film
film_of shot = record { time = shot.time; runs = shot.runs.items; pixels = shot.pixels.items }

-- some run holds the point
abbrev pub in_runs : List Run → ℕ → ℕ → Bool
in_runs runs x y = list_any (λ run. (run.y == y) && (nat_le run.x x && nat_lt x (run.x + run.w))) runs

-- a run ends before another begins, in reading order, and they don't touch
abbrev pub IsBefore : Run → Run → Type 0
IsBefore r s = (r.y < s.y) ⊎ ((r.y ≡ s.y) × (r.x + r.w < s.x))

-- Each is before all that follow it.
abbrev pub IsBeforeAll : Run → List Run → Type 0
IsBeforeAll r [] = Unit {0}
IsBeforeAll r (s ∷ ss) = IsBefore r s × IsBeforeAll r ss

abbrev pub AreInOrder : List Run → Type 0
AreInOrder [] = Unit {0}
AreInOrder (r ∷ rs) = IsBeforeAll r rs × AreInOrder rs

-- a run of so large an output, which has points
pub record LiesIn (width height : ℕ) (run : Run) : Type 0 where
  pub some : 0 < run.w
  pub wide : run.x + run.w ≤ width
  pub high : run.y < height

abbrev pub AllLieIn : ℕ → ℕ → List Run → Type 0
AllLieIn width height [] = Unit {0}
AllLieIn width height (r ∷ rs) = LiesIn width height r × AllLieIn width height rs

-- The runs of a set of points: they are disjoint, in reading order, within the output and as long as they can be, and hold those points and
-- no others.
pub record AreRuns (width height : ℕ) (damaged : ℕ → ℕ → Bool) (runs : List Run) : Type 0 where
  pub points : (x y : ℕ) → x < width → y < height → in_runs runs x y ≡ damaged x y
  pub order : AreInOrder runs
  pub within : AllLieIn width height runs

-- how many steps were taken before a run stopped
abbrev pub taken_by : RunError → ℕ
taken_by (Memory n) = n

-- only a connect and a frame's report take memory that a run may want
abbrev pub takes_memory : Act → Bool
takes_memory Connect = true
takes_memory (Tick time) = true
takes_memory (Feed c piece) = false
takes_memory (Store c store at bytes) = false
takes_memory (Leave c) = false
takes_memory (Send c n) = false
takes_memory (Close c) = false
takes_memory (Motion time x y) = false
takes_memory (Button time button pressed) = false

-- the step with this index, counted from 0, may run out of memory
abbrev pub MayStopAt : List Step → ℕ → Type 0
MayStopAt steps n = IsSomeAnd (slice_get steps n) (λ step. IsTrue (takes_memory (act_of step)))
