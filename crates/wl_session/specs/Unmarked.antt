-- What stays right at points that aren't marked, for clients that keep their promises. These laws name no request, and hold whichever
-- windows are `shown` of a desktop, as `all_windows`.
use Rattle.std.specs.Prelude.{ℕ, ℤ, ◌≡◌, ◌&&◌, Bool, true, false}
use Rattle.std.specs.List.{list_any}
use Rattle.wl_blend.specs.declared.color.Rgb.{Rgb}
use Rattle.spec_desktop.specs.Windows.{Window, contains}
use Rattle.spec_desktop.specs.Desktop.{Desktop, Showing}
use Rattle.spec_desktop.specs.Marks.{AreDistinct, in_output}
use Rattle.spec_desktop.specs.Moments.{marks_at_least_of}
use Rattle.spec_desktop.specs.Scratch.{scratch_of}
use Rattle.wl_session.specs.Promises.{KeepsDamage}

-- a window of one of these clients covers the point
abbrev pub covers_at : (ℕ → Bool) → ℤ → ℤ → Window → Bool
covers_at liars x y w = liars w.owner.client && contains w x y

abbrev pub is_covered : Showing → (ℕ → Bool) → Desktop → ℤ → ℤ → Bool
is_covered shown liars d x y = list_any (covers_at liars x y) (shown d)

abbrev pub in_output_of : Desktop → ℤ → ℤ → Bool
in_output_of d x y = in_output d.output.width d.output.height x y

-- Each client but these damages each point that it changes.
abbrev pub AllDamageBut : Showing → (ℕ → Bool) → Desktop → Desktop → Type 0
AllDamageBut shown liars old new = (c : ℕ) → liars c ≡ false → KeepsDamage shown old new c

-- no surface has two windows, before and after
abbrev pub BothDistinct : Showing → Desktop → Desktop → Type 0
BothDistinct shown old new = AreDistinct (shown old) × AreDistinct (shown new)

-- A point of the output that a step doesn't mark, and that no window of a client that hid a change covers, is painted from nothing as
-- before.
abbrev pub UnmarkedStays : Type 0
UnmarkedStays =
    (shown : Showing) (liars : ℕ → Bool) (background : Rgb) (old new : Desktop) (x y : ℤ)
    → BothDistinct shown old new
    → AllDamageBut shown liars old new
    → in_output_of old x y ≡ true
    → marks_at_least_of shown old new x y ≡ false
    → is_covered shown liars old x y ≡ false
    → is_covered shown liars new x y ≡ false
    → scratch_of shown background old x y ≡ scratch_of shown background new x y
