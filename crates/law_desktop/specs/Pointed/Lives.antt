-- The surface that has the focus, and the window that the pointer hits, are of clients that live.
use Rattle.std.specs.Prelude.{◌≡◌, true, Some}
use Rattle.std.specs.List.{list_any}
use Rattle.spec_desktop.specs.Pointer.{Target, hit_now, is_stacked}
use Rattle.spec_desktop.specs.Stacking.{is_of}
use Rattle.spec_desktop.specs.Windows.{Window}
use Rattle.spec_desktop.specs.Desktop.{Desktop}
use Rattle.spec_desktop.specs.Stacked.{all_windows}
use Rattle.law_desktop.specs.Focus.{EndedAreBare, IsSettled}
use Rattle.law_desktop.specs.Pointed.Rounds.{Lives}

-- Where the focus is settled, the surface that has it has a window, and its client lives.
abbrev pub FocusLives : Type 0
FocusLives =
    (d : Desktop) (t : Target) → EndedAreBare d → IsSettled d → d.pointer.focus ≡ Some t
    → Lives t.client d × (is_stacked t (all_windows d) ≡ true)

-- So does the client of the window that is hit, and the toplevel stands that it is stacked with.
abbrev pub HitLives : Type 0
HitLives =
    (d : Desktop) (w : Window) → EndedAreBare d → hit_now d.pointer.place (all_windows d) ≡ Some w
    → Lives w.owner.client d × (is_stacked (record { client = w.owner.client; surface = w.surface }) (all_windows d) ≡ true)
    × (list_any (is_of w.owner.client w.owner.toplevel) d.standing ≡ true)
