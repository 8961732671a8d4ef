-- What happens one message at a time: it is what happens, it is sound all along, and nothing of its marks is lost on the way.
use Rattle.std.specs.Prelude.{ℕ, ℤ, ◌≡◌, false, List, [], ◌∷◌}
use Rattle.spec_desktop.specs.Told.{Output}
use Rattle.spec_desktop.specs.Act.{Feed}
use Rattle.spec_desktop.specs.Desktop.{Desktop, empty}
use Rattle.spec_desktop.specs.Happenings.{ArePiece, Happening, Leads, LeadsAll}
use Rattle.spec_desktop.specs.Happens.{Happens}
use Rattle.spec_desktop.specs.Marks.{AreDistinct}
use Rattle.spec_desktop.specs.Moments.{marks_at_least_of, marks_at_least_through}
use Rattle.spec_desktop.specs.Stacked.{all_windows}
use Rattle.spec_desktop.specs.declared.answers.Done.{Done}
use Rattle.law_desktop.specs.Soundness.{IsSound}

-- A piece of a client's stream leads where its bytes lead as they come, and then the messages that they complete, one after another, or so
-- many of them until memory runs out; to a client that has ended, or isn't there, it does nothing. And wherever these lead a piece does.
abbrev pub PieceIsMessages : Type 0
PieceIsMessages =
    (c : ℕ) (piece : List ℕ) (d new : Desktop)
    → ((done : Done) → Happens (Feed c piece) done d new → (hs : List Happening) × ArePiece c piece d hs new × LeadsAll hs d new)
    × ((hs : List Happening) → ArePiece c piece d hs new → LeadsAll hs d new → (done : Done) × Happens (Feed c piece) done d new)

abbrev pub AreSound : List Desktop → Type 0
AreSound [] = Unit {0}
AreSound (d ∷ ds) = IsSound d × AreSound ds

-- After whatever happened from a desktop without clients on the desktop is sound, and so is each that the next happening leads through.
abbrev pub HappeningsAreSound : Type 0
HappeningsAreSound =
    (output : Output) (hs : List Happening) (d : Desktop)
    → LeadsAll hs (empty output) d
    → IsSound d × ((h : Happening) (path : List Desktop) (new : Desktop) → Leads h d path new → AreSound path)

-- What is marked through the desktops of a happening holds what is marked from the first to the last: the ends and settlings that follow a
-- change hide nothing of it.
abbrev pub MarkedThrough : Type 0
MarkedThrough =
    (h : Happening) (d : Desktop) (path : List Desktop) (new : Desktop) (x y : ℤ)
    → AreDistinct (all_windows d)
    → Leads h d path new
    → marks_at_least_through all_windows d path x y ≡ false
    → marks_at_least_of all_windows d new x y ≡ false
