-- What the pointer does where it goes to a point and where a button is pressed or released: what stands then, what is shown and marked.
use Rattle.std.specs.Prelude.{ℕ, ℤ, ◌≡◌, ◌-ℤ◌, true, false, Option, Some, None, List}
use Rattle.spec_desktop.specs.Pointer.{Pointer, Target, hit_now, settled}
use Rattle.spec_desktop.specs.PointerActions.{GoTo, Press, Release, Went, button_of}
use Rattle.spec_desktop.specs.Stacking.{Standing, raised}
use Rattle.spec_desktop.specs.Windows.{Place, Window}
use Rattle.spec_desktop.specs.Changing.{grab_holder}
use Rattle.spec_desktop.specs.Desktop.{Desktop, owned_in}
use Rattle.spec_desktop.specs.Happens.{placed, with_press, with_release}
use Rattle.spec_desktop.specs.Moments.{marks_at_least_of, marks_at_most_of}
use Rattle.spec_desktop.specs.Pointing.{moved_standing}
use Rattle.spec_desktop.specs.Settling.{AppliesAll, Midstep, PointerActs, unstruck, with_standing}
use Rattle.spec_desktop.specs.Stacked.{all_windows}

-- the desktop with these toplevels standing
abbrev pub stood : List Standing → Desktop → Desktop
stood standing d = record d { standing = standing }

-- What leads from a desktop to the one marks what it marks where it leads to the other, whatever toplevel a press raised.
abbrev pub MarksAlike : Desktop → Desktop → Desktop → Type 0
MarksAlike d e f =
    (raised : Option (ℕ × ℕ)) (x y : ℤ)
    → (marks_at_least_of all_windows d e x y ≡ marks_at_least_of all_windows d f x y)
    × (marks_at_most_of all_windows d e raised x y ≡ marks_at_most_of all_windows d f raised x y)

-- The pointer is this now, and these toplevels stand. All else that is shown is what was shown before, so it marks what so much marks.
pub record IsActed (p : Pointer) (standing : List Standing) (d e : Desktop) : Type 0 where
  pub pointer : e.pointer ≡ p
  pub stands : e.standing ≡ standing
  pub owned : (c : ℕ) → owned_in e c ≡ owned_in d c
  pub output : e.output ≡ d.output
  pub windows : all_windows e ≡ all_windows (stood standing d)
  pub marks : MarksAlike d e (stood standing d)

-- ---- the pointer goes to a point

-- what it moves goes along
abbrev pub went_along : Option Place → Place → Option Target → List Standing → List Standing
went_along None to t standing = standing
went_along (Some from) to None standing = standing
went_along (Some from) to (Some t) standing = moved_standing t (to.x -ℤ from.x) (to.y -ℤ from.y) standing

abbrev pub standing_along : Place → Desktop → List Standing
standing_along at d = went_along d.pointer.place at d.pointer.move d.standing

-- it is there, and its focus is settled by what is shown then
abbrev pub pointer_there : Place → Desktop → Pointer
pointer_there at d = record d.pointer { place = Some at }

abbrev pub pointer_went : Place → Desktop → Pointer
pointer_went at d =
    record d.pointer { place = Some at; focus = settled (pointer_there at d) (all_windows (stood (standing_along at d) d)) }

-- So much is done as it goes there, and no more.
abbrev pub GoesAlong : Type 0
GoesAlong =
    (at : Place) (d : Desktop)
    → PointerActs (GoTo at) (unstruck d) (with_standing (standing_along at d) (unstruck d))
    × ((gone : Midstep) → PointerActs (GoTo at) (unstruck d) gone → gone ≡ with_standing (standing_along at d) (unstruck d))

-- Once a surface was told of the motion, or the focus moved, the pointer is there with its focus settled.
abbrev pub MotionsAct : Type 0
MotionsAct =
    (time : ℕ) (at : Place) (d : Desktop) (told : Midstep)
    → PointerActs (Went time) (placed at (with_standing (standing_along at d) (unstruck d))) told
    → IsActed (pointer_went at d) (standing_along at d) d told.desktop

-- ---- a button

-- the toplevel whose tree or popups hold the hit is on top
abbrev pub raised_at : Option Window → List Standing → List Standing
raised_at None standing = standing
raised_at (Some w) standing = raised w.owner.client w.owner.toplevel standing

abbrev pub standing_pressed : Desktop → List Standing
standing_pressed d = raised_at (hit_now d.pointer.place (all_windows d)) d.standing

-- Where nobody holds a grab, a press raises that toplevel, and the focus is told.
abbrev pub PressesAct : Type 0
PressesAct =
    ((time button : ℕ) (d : Desktop) (told : Midstep) → grab_holder d ≡ None
    → AppliesAll (all_windows d) (button_of time button true d.pointer.focus)
    (with_standing (standing_pressed d) (unstruck (with_press button d))) told
    → PointerActs (Press time button (grab_holder d)) (unstruck (with_press button d)) told)
    × ((time button : ℕ) (d : Desktop) (told : Midstep) → grab_holder d ≡ None
    → PointerActs (Press time button (grab_holder d)) (unstruck (with_press button d)) told
    → IsActed (with_press button d).pointer (standing_pressed d) d told.desktop)

-- A release is told to the focus, and nothing else changes.
abbrev pub ReleasesAct : Type 0
ReleasesAct =
    ((time button : ℕ) (d : Desktop) (told : Midstep)
    → AppliesAll (all_windows d) (button_of time button false d.pointer.focus) (unstruck (with_release button d)) told
    → PointerActs (Release time button) (unstruck (with_release button d)) told)
    × ((time button : ℕ) (d : Desktop) (told : Midstep)
    → PointerActs (Release time button) (unstruck (with_release button d)) told
    → IsActed (with_release button d).pointer d.standing d told.desktop)
