-- What is moved stands, whatever happens.
use Rattle.std.specs.Prelude.{ℕ, List}
use Rattle.spec_desktop.specs.Told.{Output}
use Rattle.spec_desktop.specs.PointerActions.{PointerInput}
use Rattle.spec_desktop.specs.Windows.{Place}
use Rattle.spec_desktop.specs.Desktop.{Desktop, empty}
use Rattle.spec_desktop.specs.Happenings.{Happening, Leads}
use Rattle.spec_desktop.specs.Happens.{placed, with_press, with_release}
use Rattle.spec_desktop.specs.Settling.{Midstep, PointerActs, Settles, Strike, ended_by}
use Rattle.law_desktop.specs.Pointed.Pointed.{MovedStands}
use Rattle.law_desktop.specs.Pointed.Rounds.{AreRounds}

-- It does on a desktop without clients, and after whatever happens where it did before.
abbrev pub MovedStandsOn : Type 0
MovedStandsOn =
    ((output : Output) → MovedStands (empty output))
    × ((h : Happening) (d : Desktop) (path : List Desktop) (new : Desktop)
    → MovedStands d → Leads h d path new → MovedStands new)

-- So it does in the middle of a step: after a client's end, whatever the pointer does, where the focus is settled, and after rounds.
abbrev pub MovedStandsMid : Type 0
MovedStandsMid =
    ((s : Strike) (d : Desktop) → MovedStands d → MovedStands (ended_by s d))
    × ((input : PointerInput) (old new : Midstep) → MovedStands old.desktop → PointerActs input old new → MovedStands new.desktop)
    × ((old new : Midstep) → MovedStands old.desktop → Settles old new → MovedStands new.desktop)
    × ((n : ℕ) (old new : Midstep) (path : List Desktop) → MovedStands old.desktop → AreRounds n old path new → MovedStands new.desktop)

-- So it does where the pointer has another place, or a button is pressed or released, before the pointer does anything.
abbrev pub MovedStandsFirst : Type 0
MovedStandsFirst =
    ((at : Place) (m : Midstep) → MovedStands m.desktop → MovedStands (placed at m).desktop)
    × ((button : ℕ) (d : Desktop) → MovedStands d → MovedStands (with_press button d))
    × ((button : ℕ) (d : Desktop) → MovedStands d → MovedStands (with_release button d))
