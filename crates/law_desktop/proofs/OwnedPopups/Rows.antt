-- Popups that go with a toplevel and with a popup, computed on the definitions.
use Rattle.std.proofs.Common.{◌≡◌, ℕ, ◌+◌, [], ◌∷◌, Bool, true, false, Some, None, map, refl}
use Rattle.wl_shell.specs.InOrder.{goes_with, undismissed}
use Rattle.wl_shell.specs.Popups.{Popped}
use Rattle.wl_shell.specs.Positioner.{first_positioner}
use Rattle.wl_shell.specs.Shell.{IsPopup, Kind, Mapped, Shell, Toplevel, XdgSurface}

abbrev xdg : ℕ → ℕ → Kind → XdgSurface
xdg id object kind = record { id = id; base = 5; surface = id + 1; role = Some (record { id = object; kind = kind; stage = Mapped }); configures = []; since = 0 }

abbrev popup : ℕ → ℕ → ℕ → Bool → ℕ → XdgSurface
popup id object parent gone number =
    xdg id object (IsPopup (record { parent = Some parent; positioner = first_positioner; placement = None; waiting = None; is_dismissed = gone; has_grab = false; number = number }))

-- on the toplevel 8 of the xdg_surface 7 the popups 53, which was dismissed, 17 and 43, and on 17 the popup 33
abbrev shell : Shell
shell = popup 32 33 15 false 50 ∷ xdg 7 8 Toplevel ∷ popup 42 43 7 false 40 ∷ popup 15 17 7 false 30 ∷ popup 52 53 7 true 20 ∷ []

pub row_toplevel : map (λ (p : Popped). p.object.id) (undismissed (goes_with false 7) shell) ≡ 33 ∷ 43 ∷ 17 ∷ []
row_toplevel = refl

pub row_popup : map (λ (p : Popped). p.object.id) (undismissed (goes_with true 15) shell) ≡ 33 ∷ 17 ∷ []
row_popup = refl
