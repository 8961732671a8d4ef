-- Popups of a client that are dismissed, with those that descend from them, and the windows that go with them (xdg-shell.xml,
-- xdg_popup.grab and xdg_popup.popup_done).
use Rattle.std.specs.Prelude.{ℕ, ◌≡◌, ◌≢◌, ◌==◌, ◌&&◌, Bool, not}
use Rattle.std.specs.Option.{option_and_then}
use Rattle.wl_shell.specs.Popups.{Popped, dismissing, is_dismissed_in}
use Rattle.wl_shell.specs.Shell.{Shell, XdgSurface, xdg_of}
use Rattle.spec_desktop.specs.Windows.{Window}
use Rattle.spec_desktop.specs.Desktop.{Desktop, owned_in}

-- Those popups of a client are dismissed that pass, with all that descend from them. No surface changes, the other clients own what they
-- did, and the same toplevels stand where they stood.
pub record Dismisses (is : Popped → Bool) (c : ℕ) (d e : Desktop) : Type 0 where
  pub surfaces : (owned_in e c).surfaces ≡ (owned_in d c).surfaces
  pub shell : (owned_in e c).shell ≡ dismissing is (owned_in d c).shell
  pub others : (other : ℕ) → other ≢ c → owned_in e other ≡ owned_in d other
  pub standing : e.standing ≡ d.standing
  pub output : e.output ≡ d.output

-- the surface is that of a popup that was dismissed
abbrev pub is_dismissed_at : ℕ → Shell → Bool
is_dismissed_at surface shell = is_dismissed_in (option_and_then (λ (x : XdgSurface). x.role) (xdg_of surface shell))

-- The window is this client's, in a tree whose root is the surface of such a popup.
abbrev pub is_of_dismissed : ℕ → Desktop → Window → Bool
is_of_dismissed c d w = (w.owner.client == c) && is_dismissed_at w.owner.root (owned_in d c).shell

-- it is another's, or in another tree
abbrev pub is_of_others : ℕ → Desktop → Window → Bool
is_of_others c d w = not (is_of_dismissed c d w)
