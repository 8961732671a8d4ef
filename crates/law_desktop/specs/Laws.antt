-- Laws of the plain desktop.
use Rattle.std.specs.Prelude.{ℕ, ◌≡◌, ℤ, [], ◌∷◌, ◌-ℤ◌, slice_get, List, Option, Some, IsTrue, true, false}
use Rattle.std.specs.List.{list_any}
use Rattle.spec_desktop.specs.Stacking.{Standing, is_of, windows_on}
use Rattle.spec_desktop.specs.Windows.{Window, contains}
use Rattle.wl_blend.specs.declared.color.Rgb.{Rgb}
use Rattle.spec_desktop.specs.Desktop.{Desktop, Resident, Showing, owned_in, resident_of}
use Rattle.spec_desktop.specs.Marks.{Applied, AreDistinct, at_least, at_most, has_same_record, in_output}
use Rattle.spec_desktop.specs.Moments.{applied_between, marks_at_least_of}
use Rattle.spec_desktop.specs.Scratch.{color_in, scratch_of}

-- What is marked at least is among what is marked at most.
abbrev pub LeastIsMost : Type 0
LeastIsMost =
    (width height : ℕ) (applied : Applied) (raised : Option (ℕ × ℕ)) (old new : List Window) (x y : ℤ)
    → IsTrue (at_least width height applied old new x y) → IsTrue (at_most width height applied raised old new x y)

-- no toplevel stands twice
abbrev pub AreApart : List Standing → Type 0
AreApart [] = Unit {0}
AreApart (s ∷ ss) = (list_any (is_of s.client s.surface) ss ≡ false) × AreApart ss

-- Where no toplevel stands twice and no surface is linked to another, no surface has two windows.
abbrev pub WindowsAreDistinct : Type 0
WindowsAreDistinct = (d : Desktop) → ((c : ℕ) → (owned_in d c).surfaces.links ≡ []) → AreApart d.standing
    → AreDistinct (windows_on (owned_in d) d.standing)

-- Windows that keep their records show at this point the colours that they did, where no damage was applied.
abbrev pub ColorsStay : Showing → Desktop → Desktop → ℤ → ℤ → Type 0
ColorsStay shown old new x y =
    (i j : ℕ) (w v : Window)
    → slice_get (shown old) i ≡ Some w
    → slice_get (shown new) j ≡ Some v
    → has_same_record w v ≡ true
    → contains v x y ≡ true
    → applied_between old new v.owner.client v.surface (x -ℤ v.corner.x) (y -ℤ v.corner.y) ≡ false
    → color_in old w x y ≡ color_in new v x y

-- A point of the output that a step doesn't mark is painted from nothing as before, whichever windows are shown.
abbrev pub ScratchStays : Type 0
ScratchStays =
    (shown : Showing) (background : Rgb) (old new : Desktop) (x y : ℤ)
    → AreDistinct (shown old)
    → AreDistinct (shown new)
    → in_output old.output.width old.output.height x y ≡ true
    → marks_at_least_of shown old new x y ≡ false
    → ColorsStay shown old new x y
    → scratch_of shown background old x y ≡ scratch_of shown background new x y

-- a client has nothing but its own objects: no surfaces and xdg_surfaces, links, callbacks and pointers
abbrev pub OwnsNothing : Resident → Type 0
OwnsNothing r = r ≡ resident_of r.peer
