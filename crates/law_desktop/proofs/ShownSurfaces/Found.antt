-- What is found of the xdg_surfaces of a client that lives, by what is allowed.
use Rattle.std.proofs.Common.{◌≡◌, ℕ, [], ◌∷◌, Bool, Option, Some, None, refl, eq-eqb}
use Rattle.std.specs.Prelude.{◌==◌, find}
use Rattle.wl_shell.specs.Agreement.{AreApart}
use Rattle.wl_shell.specs.Shell.{Shell, XdgSurface as Xdg, is_role, xdg_at, xdg_with}
use Rattle.law_desktop.specs.Apart.{AreApartBy}
use Rattle.law_desktop.proofs.Lists.Keys.{found-by}
use Rattle.law_desktop.proofs.Soundness.Orderly.{HasId, HasNoRole, IsOn}
use Rattle.law_desktop.proofs.KeptRecords.Keeping.OwningXdg.{has_surface, has_xdg, ids-apart, surfaces-apart}
use Rattle.law_desktop.proofs.KeptRecords.Keeping.StandingClients.{IsFound}

-- told apart by their ids and by their surfaces
pub told-apart : (shell : Shell) → AreApartBy (λ id x. x.id == id) shell → AreApartBy (λ surface x. x.surface == surface) shell → AreApart shell
told-apart [] ids surfaces = tt
told-apart (x ∷ xs) ids surfaces = (ids.0 x.id (eq-eqb x.id x.id refl), surfaces.0 x.surface (eq-eqb x.surface x.surface refl), told-apart xs ids.1 surfaces.1)

module _ (shell : Shell) (apart : AreApart shell) where
  -- one that is found by any test is found by its id and by its surface
  pub found-so : (p : Xdg → Bool) (x : Xdg) → find p shell ≡ Some x → IsFound x shell
  found-so p x found = record {
    apart = apart;
    at_id = found-by has_xdg p x.id shell x (ids-apart shell apart) found (eq-eqb x.id x.id refl);
    of_surface = found-by has_surface p x.surface shell x (surfaces-apart shell apart) found (eq-eqb x.surface x.surface refl);
  }

  -- the one of this id, which has no role object
  pub bare-at : (id : ℕ) → HasNoRole (xdg_at id shell) → (x : Xdg) × (xdg_at id shell ≡ Some x) × IsFound x shell × (x.role ≡ None)
  bare-at id none = at (xdg_at id shell) refl none
    where
      at : (o : Option Xdg) → xdg_at id shell ≡ o → HasNoRole o → (x : Xdg) × (xdg_at id shell ≡ Some x) × IsFound x shell × (x.role ≡ None)
      at None here none = absurd none
      at (Some x) here none = (x, here, found-so (has_xdg id) x here, none)

  -- the one of this toplevel
  pub top-with : (id xdg top : ℕ) → HasId xdg (xdg_with id shell) → IsOn top (xdg_with id shell) → (x : Xdg) × (x.id ≡ xdg) × IsFound x shell × (x.surface ≡ top)
  top-with id xdg top has on = at (xdg_with id shell) refl has on
    where
      at : (o : Option Xdg) → xdg_with id shell ≡ o → HasId xdg o → IsOn top o → (x : Xdg) × (x.id ≡ xdg) × IsFound x shell × (x.surface ≡ top)
      at None here has on = absurd has
      at (Some x) here has on = (x, has, found-so (λ y. is_role id y.role) x here, on)
