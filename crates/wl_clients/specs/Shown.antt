-- What a viewer is told of the windows of a desktop.
use Rattle.std.specs.Prelude.{ℕ, List, length, map}
use Rattle.spec_desktop.specs.Desktop.{Desktop}
use Rattle.spec_desktop.specs.Stacked.{all_windows}
use Rattle.spec_desktop.specs.Windows.{Window}
use Rattle.wl_clients.specs.View.{DeskView}
use Rattle.wl_clients.specs.declared.shown.ShownWindow.{ShownWindow}

-- of one: the number of its client, the id of its wl_surface, its upper left corner on the output, and its size in surface coordinates
abbrev pub shown_of : Window → ShownWindow
shown_of w = record { client = w.owner.client; surface = w.surface; x = w.corner.x; y = w.corner.y; width = w.width; height = w.height }

-- of all of them, from bottom to top
abbrev pub shown_windows : Desktop → List ShownWindow
shown_windows d = map shown_of (all_windows d)

-- how many are kept
abbrev pub windows_kept : DeskView → ℕ
windows_kept v = length v.pile.windows
