-- The windows of a desktop where every request is served: toplevels with their subsurfaces and popups.
use Rattle.std.specs.Prelude.{map}
use Rattle.spec_desktop.specs.Stacking.{root_of}
use Rattle.spec_desktop.specs.Windows.{windows}
use Rattle.spec_desktop.specs.Desktop.{Showing, owned_in}
use Rattle.spec_desktop.specs.Popups.{stacked_popups}

-- from bottom to top (xdg-shell.xml, xdg_surface and xdg_popup)
abbrev pub all_windows : Showing
all_windows d = windows (λ c. (owned_in d c).surfaces) (λ c. stacked_popups (owned_in d c)) (map (root_of (owned_in d)) d.standing)
