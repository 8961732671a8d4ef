-- What a press dismisses that hits no surface of the client that holds a grab (xdg-shell.xml, xdg_popup.grab).
use Rattle.std.specs.Prelude.{ℕ, ℤ, ◌≡◌, ◌⊎◌, ◌&&◌, ◌||◌, Bool, Some, true, List}
use Rattle.std.specs.List.{list_any}
use Rattle.wl_shell.specs.Popups.{Popped}
use Rattle.spec_desktop.specs.PointerActions.{Dismiss}
use Rattle.spec_desktop.specs.Windows.{Window, contains}
use Rattle.spec_desktop.specs.Desktop.{Desktop}
use Rattle.spec_desktop.specs.Marks.{in_output}
use Rattle.spec_desktop.specs.Moments.{marks_at_least, marks_at_most}
use Rattle.spec_desktop.specs.Settling.{Applies, Midstep}
use Rattle.spec_desktop.specs.Stacked.{all_windows}
use Rattle.law_desktop.specs.Toplevel.{has_toplevel}
use Rattle.law_windows.specs.Runs.Moves.{IsWhole, lifted}
use Rattle.law_windows.specs.Grabs.Dismissed.{Dismisses}

-- Its popups with a grab, and those that descend from them; none where it ended, or is to end.
abbrev pub PressesDismiss : Type 0
PressesDismiss =
    (windows : List Window) (c : ℕ) (old new : Midstep) → Applies windows (Dismiss c) old new
    → (new ≡ old) ⊎ Dismisses (λ p. p.popup.has_grab) c old.desktop new.desktop

-- Where a press raised a toplevel first, what it has to mark is what has to be marked as that is raised, or as they are dismissed.
abbrev pub PressMarksAtLeast : Type 0
PressMarksAtLeast =
    (is : Popped → Bool) (c other toplevel : ℕ) (d e : Desktop) → IsWhole d → Dismisses is c (lifted other toplevel d) e → (x y : ℤ)
    → marks_at_least d e x y ≡ true
    → (marks_at_least d (lifted other toplevel d) x y || marks_at_least (lifted other toplevel d) e x y) ≡ true

-- It may mark the windows of the toplevel that it raised, and what has to be marked as they are dismissed.
abbrev pub PressMarksAtMost : Type 0
PressMarksAtMost =
    (is : Popped → Bool) (c other toplevel : ℕ) (d e : Desktop) → IsWhole d → Dismisses is c (lifted other toplevel d) e → (x y : ℤ)
    → ((in_output d.output.width d.output.height x y
    && list_any (λ w. contains w x y && has_toplevel other toplevel w) (all_windows d)) ≡ true
    → marks_at_most d e (Some (other, toplevel)) x y ≡ true)
    × (marks_at_least (lifted other toplevel d) e x y ≡ true → marks_at_most d e (Some (other, toplevel)) x y ≡ true)
