-- What is marked where popups of a client are dismissed: the points of the windows that go (xdg-shell.xml, xdg_popup.popup_done).
use Rattle.std.specs.Prelude.{ℕ, ℤ, ◌≡◌, ◌&&◌, Bool}
use Rattle.std.specs.List.{list_any}
use Rattle.wl_shell.specs.Popups.{Popped}
use Rattle.spec_desktop.specs.Windows.{contains}
use Rattle.spec_desktop.specs.Desktop.{Desktop}
use Rattle.spec_desktop.specs.Marks.{in_output}
use Rattle.spec_desktop.specs.Moments.{marks_at_least}
use Rattle.spec_desktop.specs.Stacked.{all_windows}
use Rattle.law_desktop.specs.Changes.{HasTrees}
use Rattle.law_windows.specs.Grabs.Dismissed.{Dismisses, is_of_dismissed}

-- In the output what has to be marked are the points of the windows that go, and no others.
abbrev pub DismissalMarks : Type 0
DismissalMarks =
    (is : Popped → Bool) (c : ℕ) (d e : Desktop) → HasTrees d → Dismisses is c d e → (x y : ℤ)
    → marks_at_least d e x y
    ≡ (in_output d.output.width d.output.height x y && list_any (λ w. contains w x y && is_of_dismissed c e w) (all_windows d))
