-- What is told to a viewer.
use Rattle.std.specs.Prelude.{ℕ, ◌≡◌, ◌+◌, ◌*◌, ◌&&◌, ◌||◌, Bool, true, false, not, List, [], ◌∷◌, ◌++◌, codes, drop, flat_map, length, map, take}
use Rattle.std.specs.Prelude.{Option, Some, None, ◌<◌, ◌==◌}
use Rattle.std.specs.Fmt.{decimal, signed_decimal}
use Rattle.std.specs.Int.{w32, to_le_bytes}
use Rattle.wl_recording.specs.Text.{frame_line}
use Rattle.wl_session.specs.Damage.{Damaged, count_points, has}
use Rattle.wl_session.specs.Frame.{Image}
use Rattle.wl_session.specs.Run.{AreRuns}
use Rattle.wl_session.specs.declared.shots.Run.{Run}
use Rattle.wl_viewer.specs.View.{Heard, ViewerView}
use Rattle.wl_viewer.specs.declared.texts.WindowLine.{WindowLine}

-- ---- the texts

-- it is told the sides of the output as it connects
abbrev pub greeting : ℕ → ℕ → List ℕ
greeting width height = codes "wlframe 1 " ++ decimal width ++ codes " " ++ decimal height ++ codes "\n"

abbrev pub synced_line : ℕ → ℕ → List ℕ
synced_line number time = codes "synced " ++ decimal number ++ codes " " ++ decimal time ++ codes "\n"

abbrev pub count_line : ℕ → List ℕ
count_line count = codes "windows " ++ decimal count ++ codes "\n"

abbrev pub window_line : WindowLine → List ℕ
window_line window =
    (codes "window " ++ decimal window.client ++ codes " " ++ decimal window.surface ++ codes " ")
    ++ ((signed_decimal window.x ++ codes " " ++ signed_decimal window.y ++ codes " ")
    ++ (decimal window.w ++ codes " " ++ decimal window.h ++ codes "\n"))

abbrev pub bad_line : List ℕ
bad_line = codes "bad line\n"

-- ---- updates

-- pixels side by side, as they are told: the place of the first, how many, and 4 bytes for each
pub record Piece : Type 0 where
  pub x : ℕ
  pub y : ℕ
  pub w : ℕ
  pub pixels : List ℕ

-- a frame's time, and the pixels that are told of it
pub record Update : Type 0 where
  pub time : ℕ
  pub pieces : List Piece

-- three numbers of 4 bytes each, the least first
abbrev pub place_text : ℕ → ℕ → ℕ → List ℕ
place_text x y w = to_le_bytes w32 x ++ to_le_bytes w32 y ++ to_le_bytes w32 w

-- these, and then the pixels
abbrev pub piece_text : Piece → List ℕ
piece_text piece = place_text piece.x piece.y piece.w ++ piece.pixels

-- a line with the time and how many pieces follow, and then these
abbrev pub update_text : Update → List ℕ
update_text update = frame_line update.time (length update.pieces) ++ flat_map piece_text update.pieces

-- the bytes of a frame's pixels in a run
abbrev pub pixels_of : Image → Run → List ℕ
pixels_of frame run = take (4 * run.w) (drop (4 * (run.y * frame.width + run.x)) frame.pixels)

abbrev pub piece_of : Image → Run → Piece
piece_of frame run = record { x = run.x; y = run.y; w = run.w; pixels = pixels_of frame run }

-- these runs of a frame at this time
abbrev pub update_of : Image → ℕ → List Run → Update
update_of frame time runs = record { time = time; pieces = map (piece_of frame) runs }

-- It tells all these points, and no others, in the pixels of this frame: run by run, row by row from the top.
pub record TellsAll (untold : Damaged) (frame : Image) (update : Update) : Type 0 where
  pub runs : List Run
  pub are : AreRuns untold.width untold.height (has untold) runs
  pub pieces : update.pieces ≡ map (piece_of frame) runs

-- no point is untold
abbrev pub IsAllTold : Damaged → Type 0
IsAllTold untold = (x y : ℕ) → x < untold.width → y < untold.height → has untold x y ≡ false

-- how many points are untold
abbrev pub untold_points : Damaged → ℕ
untold_points untold = count_points untold.width untold.height (has untold)

-- what one update appends, if one is made
abbrev pub updates_text : Option Update → List ℕ
updates_text None = []
updates_text (Some update) = update_text update

-- Where a point is untold, an update tells all that are; else none is made.
abbrev pub TellsUntold : Damaged → Image → ℕ → Option Update → Type 0
TellsUntold untold frame time None = untold_points untold ≡ 0
TellsUntold untold frame time (Some update) =
    TellsAll untold frame update × (update.time ≡ time) × (0 < untold_points untold)

abbrev pub is_nothing : List ℕ → Bool
is_nothing [] = true
is_nothing (byte ∷ bytes) = false

-- nothing waits to be sent, and it wasn't told of a bad line
abbrev pub is_free : ViewerView → Bool
is_free viewer = not viewer.is_over && is_nothing viewer.out

-- it was told all that was untold, by this update in the pixels of this frame, if by one
pub record IsTold (frame : Image) (time : ℕ) (update : Option Update) (old new : ViewerView) : Type 0 where
  pub tells : TellsUntold old.untold frame time update
  pub out : new.out ≡ updates_text update
  pub told : IsAllTold new.untold
  pub width : new.untold.width ≡ old.untold.width
  pub height : new.untold.height ≡ old.untold.height
  pub heard : new.heard ≡ old.heard
  pub is_over : new.is_over ≡ old.is_over

-- the points of both are untold
pub record Joins (old damage new : Damaged) : Type 0 where
  pub points : (x y : ℕ) → x < old.width → y < old.height → has new x y ≡ (has old x y || has damage x y)
  pub width : new.width ≡ old.width
  pub height : new.height ≡ old.height

-- ---- answers

-- the answer to a sync that waits
abbrev pub sync_text : Option ℕ → ℕ → List ℕ
sync_text None time = []
sync_text (Some number) time = synced_line number time

abbrev pub answered : Heard → Heard
answered heard = record heard { sync = None }

abbrev pub told_windows : Heard → Heard
told_windows heard = record heard { wants_windows = false }

-- it was told of a bad line, and nothing waits to be sent
abbrev pub is_done : ViewerView → Bool
is_done viewer = viewer.is_over && is_nothing viewer.out

-- A bad line is told of once, and then nothing else is told.
abbrev pub ended_by : Bool → Bool → ViewerView → ViewerView
ended_by true false viewer = record viewer { out = viewer.out ++ bad_line; is_over = true }
ended_by true true viewer = viewer
ended_by false over viewer = viewer

abbrev pub ended : ViewerView → ViewerView
ended viewer = ended_by viewer.heard.is_bad viewer.is_over viewer

-- the output is as large as a frame and its damage
abbrev pub is_as_large : Damaged → Damaged → Image → Bool
is_as_large untold damage frame =
    (frame.width == untold.width) && ((frame.height == untold.height) && ((damage.width == untold.width) && (damage.height == untold.height)))
