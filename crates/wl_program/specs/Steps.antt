-- From one turn to the next: the turn, and at a rate the short turns before it.
use Rattle.std.specs.Prelude.{ℕ, ◌≤◌, ◌⊎◌, None, Option, Some}
use Rattle.wl_recording.specs.Side.{Files}
use Rattle.wl_server.specs.Acting.{InTurn, Stretch, Then}
use Rattle.wl_server.specs.Phases.{IsTurn, StartsTurn}
use Rattle.wl_server.specs.Sharing.{IsSharedTurn, IsSharedViewedTurn, StartsSharedTurn}
use Rattle.wl_server.specs.ShortTurns.{IsShortTurn, IsShortViewedTurn, StartsShortTurn}
use Rattle.wl_server.specs.Viewed.{IsViewedTurn, Stage as Stand}
use Rattle.wl_server.specs.Ways.{Serving, Ways}
use Rattle.wl_program.specs.declared.rate.Rate as paced

-- Short turns are taken, a million at most, or none.
abbrev pub AreShortTurns : {H C S : Type 0} → Ways H C → Files S → Serving H C S → Serving H C S → Stretch
AreShortTurns w files from to start acts events end =
    (n : ℕ) × (n ≤ 1000000) × InTurn (λ k. IsShortTurn w files) n from to start acts events end

-- A turn is taken at this time; at a rate its clients share the server's time, and short turns are taken before it.
abbrev pub IsStep : {H C S : Type 0} → Ways H C → Files S → Option paced.Rate → ℕ → Serving H C S → Serving H C S → Stretch
IsStep w files None time = IsTurn w files time
IsStep w files (Some rate) time = Then (AreShortTurns w files) (IsSharedTurn w files time)

-- Short turns are taken, and one more begins.
abbrev pub BeginsShortTurns : {H C S : Type 0} → Ways H C → Files S → Serving H C S → Serving H C S → Stretch
BeginsShortTurns w files = Then (AreShortTurns w files) (StartsShortTurn w files)

-- It begins so: the turn begins; or at a rate one of the short turns, or the turn behind them.
abbrev pub StartsStep : {H C S : Type 0} → Ways H C → Files S → Option paced.Rate → ℕ → Serving H C S → Serving H C S → Stretch
StartsStep w files None time from to start acts events end = StartsTurn w files time from to start acts events end
StartsStep w files (Some rate) time from to start acts events end =
    BeginsShortTurns w files from to start acts events end
    ⊎ Then (AreShortTurns w files) (StartsSharedTurn w files time) from to start acts events end

-- ---- with a viewer

abbrev pub AreShortViewedTurns : {H C S V D : Type 0} → Ways H C → Ways V D → Files S → ℕ → ℕ → ℕ → Stand H C S V D → Stand H C S V D → Stretch
AreShortViewedTurns w v files time width height from to start acts events end =
    (n : ℕ) × (n ≤ 1000000) × InTurn (λ k. IsShortViewedTurn w v files time width height) n from to start acts events end

abbrev pub IsViewedStep : {H C S V D : Type 0} → Ways H C → Ways V D → Files S → Option paced.Rate → ℕ → ℕ → ℕ → Stand H C S V D → Stand H C S V D → Stretch
IsViewedStep w v files None time width height = IsViewedTurn w v files time width height
IsViewedStep w v files (Some rate) time width height = Then (AreShortViewedTurns w v files time width height) (IsSharedViewedTurn w v files time width height)
