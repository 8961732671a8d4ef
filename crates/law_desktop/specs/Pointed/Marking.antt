-- What is marked through the desktops of a step where the pointer is put aside, and through rounds.
use Rattle.std.specs.Prelude.{ℕ, ℤ, ◌≡◌, ◌||◌, false, Option, None, List, [], ◌∷◌, ◌++◌, map}
use Rattle.spec_desktop.specs.Pointer.{Pointer}
use Rattle.spec_desktop.specs.Desktop.{Desktop, unpointed}
use Rattle.spec_desktop.specs.Marks.{AreDistinct}
use Rattle.spec_desktop.specs.Moments.{marks_at_least_of, marks_at_least_through, marks_at_most_of, marks_at_most_through}
use Rattle.spec_desktop.specs.Settling.{Midstep, Settles, Strike, ended_by}
use Rattle.spec_desktop.specs.Stacked.{all_windows}
use Rattle.law_desktop.specs.Pointed.Entering.{TellsNew}
use Rattle.law_desktop.specs.Pointed.Pointed.{pointed}
use Rattle.law_desktop.specs.Pointed.Rounds.{AreRounds, IsRound}

-- the last of these desktops
abbrev pub last_of : Desktop → List Desktop → Desktop
last_of d [] = d
last_of d (e ∷ es) = last_of e es

-- What is marked through desktops is what is marked through the first of them, and then through the others.
abbrev pub MarksInParts : Type 0
MarksInParts =
    (d : Desktop) (before later : List Desktop) (x y : ℤ)
    → (marks_at_least_through all_windows d (before ++ later) x y
    ≡ (marks_at_least_through all_windows d before x y || marks_at_least_through all_windows (last_of d before) later x y))
    × (marks_at_most_through all_windows None d (before ++ later) x y
    ≡ (marks_at_most_through all_windows None d before x y || marks_at_most_through all_windows None (last_of d before) later x y))

-- With the pointer put back a step marks what it marks with the pointer put aside, and then what is marked from its last desktop on.
abbrev pub MarksApart : Type 0
MarksApart =
    (p : Desktop → Pointer) (raised : Option (ℕ × ℕ)) (d e : Desktop) (before later : List Desktop) (x y : ℤ) → AreDistinct (all_windows e)
    → (marks_at_least_through all_windows d (map (λ a. pointed (p a) a) before ++ pointed (p e) e ∷ later) x y
    ≡ (marks_at_least_through all_windows (unpointed d) (before ++ e ∷ e ∷ []) x y
    || marks_at_least_through all_windows (pointed (p e) e) later x y))
    × (marks_at_most_through all_windows raised d (map (λ a. pointed (p a) a) before ++ pointed (p e) e ∷ later) x y
    ≡ (marks_at_most_through all_windows raised (unpointed d) (before ++ e ∷ e ∷ []) x y
    || marks_at_most_through all_windows None (pointed (p e) e) later x y))

-- To settle the focus marks nothing.
abbrev pub SettlingMarksNothing : Type 0
SettlingMarksNothing =
    (old new : Midstep) (x y : ℤ) → AreDistinct (all_windows old.desktop) → Settles old new
    → (marks_at_least_of all_windows old.desktop new.desktop x y ≡ false)
    × (marks_at_most_of all_windows old.desktop new.desktop None x y ≡ false)

-- A round marks what its end marks.
abbrev pub RoundsMarkEnds : Type 0
RoundsMarkEnds =
    (old settled : Midstep) (s : Strike) (x y : ℤ) → AreDistinct (all_windows old.desktop) → Settles old settled
    → (marks_at_least_through all_windows old.desktop (settled.desktop ∷ ended_by s settled.desktop ∷ []) x y
    ≡ marks_at_least_of all_windows settled.desktop (ended_by s settled.desktop) x y)
    × (marks_at_most_through all_windows None old.desktop (settled.desktop ∷ ended_by s settled.desktop ∷ []) x y
    ≡ marks_at_most_of all_windows settled.desktop (ended_by s settled.desktop) None x y)

-- So one round more marks what its end marks, and a settling more nothing.
abbrev pub RoundsMarkInTurn : Type 0
RoundsMarkInTurn =
    (n : ℕ) (old mid new : Midstep) (path later : List Desktop) (x y : ℤ) → AreDistinct (all_windows mid.desktop)
    → AreRounds n old path mid → (round : IsRound mid later new)
    → (marks_at_least_through all_windows old.desktop (path ++ later) x y
    ≡ (marks_at_least_through all_windows old.desktop path x y || marks_at_least_of all_windows round.0.desktop new.desktop x y))
    × (marks_at_most_through all_windows None old.desktop (path ++ later) x y
    ≡ (marks_at_most_through all_windows None old.desktop path x y || marks_at_most_of all_windows round.0.desktop new.desktop None x y))

abbrev pub LastMarksNothing : Type 0
LastMarksNothing =
    (n : ℕ) (old mid last : Midstep) (path : List Desktop) (x y : ℤ) → AreDistinct (all_windows mid.desktop)
    → AreRounds n old path mid → Settles mid last
    → (marks_at_least_through all_windows old.desktop (path ++ last.desktop ∷ []) x y
    ≡ marks_at_least_through all_windows old.desktop path x y)
    × (marks_at_most_through all_windows None old.desktop (path ++ last.desktop ∷ []) x y
    ≡ marks_at_most_through all_windows None old.desktop path x y)

-- What a step's own change marks, where the focus is settled after it, and then what is marked from there on: after a motion or a button.
abbrev pub MarksOwnThenRounds : Type 0
MarksOwnThenRounds =
    (raised : Option (ℕ × ℕ)) (d : Desktop) (told settled : Midstep) (later : List Desktop) (x y : ℤ)
    → AreDistinct (all_windows told.desktop) → Settles told settled
    → (marks_at_least_through all_windows d (settled.desktop ∷ later) x y
    ≡ (marks_at_least_of all_windows d told.desktop x y
    || marks_at_least_through all_windows told.desktop (settled.desktop ∷ later) x y))
    × (marks_at_most_through all_windows raised d (settled.desktop ∷ later) x y
    ≡ (marks_at_most_of all_windows d told.desktop raised x y
    || marks_at_most_through all_windows None told.desktop (settled.desktop ∷ later) x y))

-- That a new wl_pointer is told of the focus marks nothing.
abbrev pub NewPointerMarks : Type 0
NewPointerMarks =
    (id c : ℕ) (d e : Desktop) (told : Midstep) (later : List Desktop) (x y : ℤ) → TellsNew id c e told
    → (marks_at_least_through all_windows d (told.desktop ∷ later) x y
    ≡ (marks_at_least_of all_windows d e x y || marks_at_least_through all_windows told.desktop later x y))
    × (marks_at_most_through all_windows None d (told.desktop ∷ later) x y
    ≡ (marks_at_most_of all_windows d e None x y || marks_at_most_through all_windows None told.desktop later x y))
