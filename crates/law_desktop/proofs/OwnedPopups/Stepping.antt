-- One xdg_surface of a client changes, and its surface stays; what is kept of it stands for it then.
use Rattle.std.proofs.Common.{◌≡◌, ℕ, Option, Some, None, refl, ap, sym, ◌∙◌}
use Rattle.std.specs.Option.{option_map}
use Rattle.std.specs.Prelude.{◌==◌}
use Rattle.wl_links.specs.Family.{Tied}
use Rattle.wl_surface.specs.Slots.{Slots}
use Rattle.wl_surface.specs.State.{History}
use Rattle.wl_surface.specs.Surface.{Surface}
use Rattle.wl_surface.specs.Surfaces.{Surfaces, history_in, surface_at, with_change as with_surface_change}
use Rattle.wl_shell.specs.Agreement.{with_history}
use Rattle.wl_shell.specs.Kept.{Kept, Stands, changing}
use Rattle.wl_shell.specs.Popups.{popup_changed, with_popup_role}
use Rattle.wl_shell.specs.Shell.{Popup, RoleObject, XdgSurface, is_role, with_change}
use Rattle.spec_desktop.specs.Stacking.{Owned}
use Rattle.law_desktop.specs.Owning.{IsOwned, IsXdg, KeepsRole, Names}
use Rattle.law_desktop.proofs.Keeping.OwningChanges.{IsOwned-stepped, agree-same}
use Rattle.law_desktop.proofs.Keeping.OwningXdg.{histories-changed, histories-same}

surface-of : (o : Option Surface) (h : History) → option_map (λ (s : Surface). s.history) o ≡ Some h → (s : Surface) × (o ≡ Some s) × (s.history ≡ h)
surface-of None h e = absurd (cc)
surface-of (Some s) h e = (s, refl, cc)

-- the history of a surface that changes
pub histories-to : (id : ℕ) (change : Surface → Surface) (to : History → History) (all : Surfaces) (h : History) → ((s : Surface) → (change s).id ≡ s.id)
    → ((s : Surface) → (change s).history ≡ to s.history) → history_in id all ≡ Some h
    → (λ other. history_in other (with_surface_change id change all)) ≡ with_history id (Some (to h)) (λ other. history_in other all)
histories-to id change to all h keeps moves there =
    let one = surface-of (surface_at id all) h there in
    histories-changed id change all one.0 keeps one.1 ∙ ap (λ (g : History). with_history id (Some g) (λ other. history_in other all)) (moves one.0 ∙ ap to one.2)

-- its id is the same
pub same-role : (change : RoleObject → RoleObject) (object : ℕ) (o : Option RoleObject) → ((r : RoleObject) → (change r).id ≡ r.id) → is_role object (option_map change o) ≡ is_role object o
same-role change object None keeps = refl
same-role change object (Some r) keeps = ap (λ i. i == object) (keeps r)

-- a popup's change leaves the role object's id
pub popup-keeps : (change : Popup → Popup) → KeepsRole (popup_changed change)
popup-keeps change = record { id = λ x. refl; surface = λ x. refl; role = λ object x. same-role (with_popup_role change) object x.role (λ r. refl) }

module _ (names : Names) (slots : Slots) (tied : Tied) (kept : ℕ → Option Kept) (o : Owned) (is : IsOwned names slots tied kept o) (number : ℕ) (k : Kept) (x : XdgSurface) (h : History)
    (one : IsXdg names kept o number k x h) where
  pub shell-stepped : (change : Kept → Kept) (step : XdgSurface → XdgSurface) → KeepsRole step → Stands (change k) (step x) h
      → IsOwned names slots tied (changing number change kept) (record o { shell = with_change x.id step o.shell })
  shell-stepped change step keeps stands =
      IsOwned-stepped names slots tied kept o is number k x h one change step h slots tied o.surfaces keeps is.surfaces
      (agree-same o.shell (with_history x.surface (Some h) (λ other. history_in other o.surfaces)) (λ other. history_in other o.surfaces)
      (sym (histories-same x.surface (Some h) (λ other. history_in other o.surfaces) one.history))) stands
