-- Laws of what a viewer holds.
use Rattle.std.specs.Prelude.{ℕ, ◌≡◌, ◌≢◌, ◌<◌, false, if◌then◌else◌, All, List, [], ◌∷◌, ◌++◌, length}
use Rattle.wl_session.specs.Damage.{Damaged, has}
use Rattle.wl_session.specs.Frame.{Image, color_at}
use Rattle.wl_session.specs.Viewer.{Sight}
use Rattle.wl_viewer.specs.Asked.{asked_by}
use Rattle.wl_viewer.specs.Copying.{copied_update}
use Rattle.wl_viewer.specs.Hearing.{hears, kept}
use Rattle.wl_viewer.specs.Telling.{TellsAll, Update}
use Rattle.wl_viewer.specs.View.{Heard}

-- Whoever copies an update holds the frame at each point that was untold, and what they held before at each other.
abbrev pub CopiesHold : Type 0
CopiesHold =
    (untold : Damaged) (frame : Image) (update : Update) (sight : Sight) (x y : ℕ)
    → untold.width ≡ frame.width → untold.height ≡ frame.height → TellsAll untold frame update → x < frame.width → y < frame.height
    → copied_update sight update x y ≡ (if has untold x y then color_at frame x y else sight x y)

-- what a viewer holds is the frame, but for what it wasn't told
abbrev pub IsSeenBut : Damaged → Sight → Image → Type 0
IsSeenBut untold sight frame = (x y : ℕ) → x < frame.width → y < frame.height → has untold x y ≡ false → sight x y ≡ color_at frame x y

-- a byte of a line
abbrev pub InLine : ℕ → Type 0
InLine byte = byte ≢ 10

-- A line of at most 64 bytes with its line feed is taken as what it asks, wherever the bytes were cut.
abbrev pub LinesAreTaken : Type 0
LinesAreTaken =
    (heard : Heard) (line rest : List ℕ)
    → heard.is_bad ≡ false → heard.line ≡ [] → All InLine line → length line < 64
    → hears heard (line ++ 10 ∷ rest) ≡ hears (kept (asked_by line) heard) rest
