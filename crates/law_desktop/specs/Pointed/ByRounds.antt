-- A motion of the pointer and a button as a whole: the step's own change, and then the rounds that follow it.
use Rattle.std.specs.Prelude.{ℕ, ℤ, ◌≡◌, ◌||◌, Bool, true, false, Option, None, List, [], ◌∷◌}
use Rattle.spec_desktop.specs.Pointer.{hit_now, is_down, is_press}
use Rattle.spec_desktop.specs.PointerActions.{GoTo, Press, Release, Went}
use Rattle.spec_desktop.specs.declared.answers.Done.TheVariants as gave
use Rattle.spec_desktop.specs.Act.{Button, Motion}
use Rattle.spec_desktop.specs.Changing.{grab_holder}
use Rattle.spec_desktop.specs.Desktop.{Desktop}
use Rattle.spec_desktop.specs.Happenings.{Happening, Leads, Single}
use Rattle.spec_desktop.specs.Happens.{placed, point_in, with_press, with_release}
use Rattle.spec_desktop.specs.Marks.{AreDistinct}
use Rattle.spec_desktop.specs.Moments.{marks_at_least_of, marks_at_least_through, marks_at_most_of, marks_at_most_through}
use Rattle.spec_desktop.specs.Settling.{Midstep, PointerActs, unstruck}
use Rattle.spec_desktop.specs.Stacked.{all_windows}
use Rattle.spec_desktop.specs.Through.{raised_from, raised_in}
use Rattle.law_desktop.specs.Focus.{IsSettled}
use Rattle.law_desktop.specs.Pointed.Whole.{AreAllRounds}

-- What is marked through these desktops is what the step's own change marks, where a press raised this toplevel, and what the ends of the
-- rounds mark.
abbrev pub MarksOwnAndEnds : Option (ℕ × ℕ) → Desktop → Desktop → List Desktop → List Desktop → Type 0
MarksOwnAndEnds raised d own rounds path =
    (x y : ℤ)
    → (marks_at_least_through all_windows d path x y
    ≡ (marks_at_least_of all_windows d own x y || marks_at_least_through all_windows own rounds x y))
    × (marks_at_most_through all_windows raised d path x y
    ≡ (marks_at_most_of all_windows d own raised x y || marks_at_most_through all_windows None own rounds x y))

-- A step whose own change led to `told` leads on through the rounds, and the focus is settled then.
abbrev pub LeadsByRounds : Happening → Desktop → Midstep → List Desktop → Midstep → Midstep → Type 0
LeadsByRounds h d told rounds mid last =
    (path : List Desktop) × Leads h d path last.desktop × IsSettled last.desktop
    × ((raised : Option (ℕ × ℕ)) → AreDistinct (all_windows told.desktop) → AreDistinct (all_windows mid.desktop)
    → MarksOwnAndEnds raised d told.desktop rounds path)

-- ---- a motion

abbrev pub MotionsByRounds : Type 0
MotionsByRounds =
    (time : ℕ) (x y : ℤ) (d : Desktop) (gone told : Midstep) (rounds : List Desktop) (mid last : Midstep)
    → PointerActs (GoTo (point_in d.output x y)) (unstruck d) gone
    → PointerActs (Went time) (placed (point_in d.output x y) gone) told
    → AreAllRounds told rounds mid last
    → LeadsByRounds (Single (Motion time x y) gave.Motion) d told rounds mid last

-- ---- a button

-- a press of a button counts, or a release
abbrev pub counts : Bool → ℕ → Desktop → Bool
counts true button d = is_press button d.pointer.buttons
counts false button d = is_down button d.pointer.buttons

-- Where it counts, the focus is told, and rounds follow.
abbrev pub ButtonsByRounds : Type 0
ButtonsByRounds =
    ((time button : ℕ) (d : Desktop) (told : Midstep) (rounds : List Desktop) (mid last : Midstep)
    → counts true button d ≡ true
    → PointerActs (Press time button (grab_holder d)) (unstruck (with_press button d)) told
    → AreAllRounds told rounds mid last
    → LeadsByRounds (Single (Button time button true) gave.Button) d told rounds mid last)
    × ((time button : ℕ) (d : Desktop) (told : Midstep) (rounds : List Desktop) (mid last : Midstep)
    → counts false button d ≡ true
    → PointerActs (Release time button) (unstruck (with_release button d)) told
    → AreAllRounds told rounds mid last
    → LeadsByRounds (Single (Button time button false) gave.Button) d told rounds mid last)

-- Where it doesn't, nothing happens, and nothing is marked.
abbrev pub ButtonsMayBeIdle : Type 0
ButtonsMayBeIdle =
    (time button : ℕ) (pressed : Bool) (d : Desktop) → counts pressed button d ≡ false
    → Leads (Single (Button time button pressed) gave.Button) d (d ∷ []) d
    × (raised_in (Button time button pressed) d ≡ None)
    × (AreDistinct (all_windows d) → (x y : ℤ)
    → (marks_at_least_through all_windows d (d ∷ []) x y ≡ false)
    × (marks_at_most_through all_windows None d (d ∷ []) x y ≡ false))

-- A press that counts raised the toplevel that holds the hit, where that wasn't topmost; a release nothing.
abbrev pub ButtonsRaise : Type 0
ButtonsRaise =
    ((time button : ℕ) (d : Desktop) → counts true button d ≡ true
    → raised_in (Button time button true) d ≡ raised_from d.standing (hit_now d.pointer.place (all_windows d)))
    × ((time button : ℕ) (d : Desktop) → raised_in (Button time button false) d ≡ None)
