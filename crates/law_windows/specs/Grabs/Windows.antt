-- Laws of the windows where popups of a client are dismissed (xdg-shell.xml, xdg_popup.popup_done): those of their trees go, and all others
-- stay as they are, where they are.
use Rattle.std.specs.Prelude.{ℕ, ◌≡◌, Bool, filter}
use Rattle.wl_shell.specs.Popups.{Popped}
use Rattle.spec_desktop.specs.Desktop.{Desktop}
use Rattle.spec_desktop.specs.Stacked.{all_windows}
use Rattle.law_desktop.specs.Shown.{ShownStand}
use Rattle.law_desktop.specs.Changes.{HasTrees}
use Rattle.law_windows.specs.Runs.Moves.{IsWhole}
use Rattle.law_windows.specs.Grabs.Dismissed.{Dismisses, is_of_others}

-- The windows of their trees go, and the others keep their order.
abbrev pub DismissedWindowsGo : Type 0
DismissedWindowsGo =
    (is : Popped → Bool) (c : ℕ) (d e : Desktop) → HasTrees d → Dismisses is c d e
    → all_windows e ≡ filter (λ w. is_of_others c e w) (all_windows d)

-- Just the mapped toplevels stand still: a popup that was dismissed isn't mapped any more.
abbrev pub DismissedStaysShown : Type 0
DismissedStaysShown = (is : Popped → Bool) (c : ℕ) (d e : Desktop) → HasTrees d → Dismisses is c d e → ShownStand d → ShownStand e

-- And toplevels, popups and subsurfaces make trees still.
abbrev pub DismissedStaysWhole : Type 0
DismissedStaysWhole = (is : Popped → Bool) (c : ℕ) (d e : Desktop) → IsWhole d → Dismisses is c d e → IsWhole e
