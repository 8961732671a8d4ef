-- What a step applies and marks, by the desktops before it and after it.
use Rattle.std.specs.Prelude.{ℕ, ℤ, int_le, pos, unsigned_abs, ◌&&◌, ◌||◌, Bool, false, Option, Some, None, List, [], ◌∷◌}
use Rattle.wl_surface.specs.State.{History, applied, between, is_damaged_by}
use Rattle.wl_surface.specs.Surfaces.{history_in}
use Rattle.spec_desktop.specs.Desktop.{Desktop, Showing, owned_in}
use Rattle.spec_desktop.specs.Marks.{Applied, at_least, at_most}
use Rattle.spec_desktop.specs.Stacked.{all_windows}

-- the damage that was applied to a surface between its old and its new cut, seen with what it shows now
abbrev pub is_applied_at : History → History → ℕ → ℕ → Bool
is_applied_at old new x y = is_damaged_by (applied new) (between old.cut new.cut new.requests) x y

abbrev pub is_applied_by : Option History → Option History → ℕ → ℕ → Bool
is_applied_by (Some old) (Some new) x y = is_applied_at old new x y
is_applied_by (Some old) None x y = false
is_applied_by None new x y = false

abbrev pub history_of : Desktop → ℕ → ℕ → Option History
history_of d client surface = history_in surface (owned_in d client).surfaces

abbrev pub applied_between : Desktop → Desktop → Applied
applied_between old new client surface x y =
    (int_le (pos 0) x && int_le (pos 0) y)
    && is_applied_by (history_of old client surface) (history_of new client surface) (unsigned_abs x) (unsigned_abs y)

-- what a step from one desktop to the other marks at least, and at most
abbrev pub marks_at_least_of : Showing → Desktop → Desktop → ℤ → ℤ → Bool
marks_at_least_of shown old new x y = at_least old.output.width old.output.height (applied_between old new) (shown old) (shown new) x y

abbrev pub marks_at_most_of : Showing → Desktop → Desktop → Option (ℕ × ℕ) → ℤ → ℤ → Bool
marks_at_most_of shown old new raised x y =
    at_most old.output.width old.output.height (applied_between old new) raised (shown old) (shown new) x y

-- What a step marks that leads through these desktops: by its own change at least and at most, where a press raised this toplevel, and then
-- by each end and each settling.
abbrev pub marks_at_least_through : Showing → Desktop → List Desktop → ℤ → ℤ → Bool
marks_at_least_through shown d [] x y = false
marks_at_least_through shown d (e ∷ es) x y = marks_at_least_of shown d e x y || marks_at_least_through shown e es x y

abbrev pub marks_at_most_through : Showing → Option (ℕ × ℕ) → Desktop → List Desktop → ℤ → ℤ → Bool
marks_at_most_through shown raised d [] x y = false
marks_at_most_through shown raised d (e ∷ es) x y = marks_at_most_of shown d e raised x y || marks_at_most_through shown None e es x y

-- of all windows
abbrev pub marks_at_least : Desktop → Desktop → ℤ → ℤ → Bool
marks_at_least old new x y = marks_at_least_of all_windows old new x y

abbrev pub marks_at_most : Desktop → Desktop → Option (ℕ × ℕ) → ℤ → ℤ → Bool
marks_at_most old new raised x y = marks_at_most_of all_windows old new raised x y
