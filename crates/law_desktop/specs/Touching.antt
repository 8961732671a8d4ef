-- Whether a client shows a point, by a toplevel, a popup or what is below them.
use Rattle.std.specs.Prelude.{ℕ, ℤ, ◌==◌, ◌&&◌, Bool, List}
use Rattle.std.specs.List.{list_any}
use Rattle.spec_desktop.specs.Windows.{Window, contains}
use Rattle.spec_desktop.specs.Desktop.{Desktop}
use Rattle.spec_desktop.specs.Stacked.{all_windows}

-- one of these windows is of a surface that passes, and contains the point
abbrev pub any_window_at : (ℕ → ℕ → Bool) → ℤ → ℤ → List Window → Bool
any_window_at is x y windows = list_any (λ w. is w.owner.client w.surface && contains w x y) windows

-- the desktop has a window of client c that contains the point
abbrev pub has_window_at : ℕ → ℤ → ℤ → Desktop → Bool
has_window_at c x y d = any_window_at (λ client surface. client == c) x y (all_windows d)
