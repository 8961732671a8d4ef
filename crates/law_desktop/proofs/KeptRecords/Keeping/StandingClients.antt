-- The mapped toplevels of a client stand, whatever becomes of its surfaces and its xdg_surfaces.
use Rattle.std.proofs.Common.{◌≡◌, ◌≢◌, ℕ, Bool, true, false, Some, None, cond, refl, ap, sym, ◌∙◌, eq-eqb}
use Rattle.std.specs.Prelude.{◌==◌}
use Rattle.std.specs.Option.{option_map}
use Rattle.std.proofs.lemmas.Bool.{ne_eqb}
use Rattle.wl_shell.specs.Agreement.{AreApart}
use Rattle.wl_shell.specs.Shell.{Shell, XdgSurface, xdg_at, xdg_of, without_xdg, with_change as with_xdg_change}
use Rattle.law_desktop.proofs.Lists.Keys.{changed-elsewhere, found-map, left-elsewhere, left-here}
use Rattle.law_desktop.proofs.KeptRecords.Keeping.OwningXdg.{has_surface, has_xdg, ids-apart, surfaces-apart}

-- ---- xdg_surfaces

abbrev pub one_stepped : ℕ → (XdgSurface → XdgSurface) → XdgSurface → XdgSurface
one_stepped id step x = cond (x.id == id) (step x) x

one-surface : (id : ℕ) (step : XdgSurface → XdgSurface) → ((y : XdgSurface) → (step y).surface ≡ y.surface) → (x : XdgSurface) (b : Bool) → (cond b (step x) x).surface ≡ x.surface
one-surface id step keeps x true = keeps x
one-surface id step keeps x false = refl

pub stepped-found : (id surface : ℕ) (step : XdgSurface → XdgSurface) (shell : Shell) → ((y : XdgSurface) → (step y).surface ≡ y.surface)
    → xdg_of surface (with_xdg_change id step shell) ≡ option_map (one_stepped id step) (xdg_of surface shell)
stepped-found id surface step shell keeps = found-map (has_surface surface) (one_stepped id step) shell (λ x. ap (λ n. n == surface) (one-surface id step keeps x (x.id == id)))

-- the xdg_surface of this id, which is that of its surface
pub record IsFound (x : XdgSurface) (shell : Shell) : Type 0 where
  pub apart : AreApart shell
  pub at_id : xdg_at x.id shell ≡ Some x
  pub of_surface : xdg_of x.surface shell ≡ Some x

pub stepped-here : (x : XdgSurface) (step : XdgSurface → XdgSurface) (shell : Shell) → IsFound x shell → ((y : XdgSurface) → (step y).surface ≡ y.surface)
    → xdg_of x.surface (with_xdg_change x.id step shell) ≡ Some (step x)
stepped-here x step shell is keeps =
    stepped-found x.id x.surface step shell keeps ∙ ap (option_map (one_stepped x.id step)) is.of_surface ∙ ap (λ b. Some (cond b (step x) x)) (eq-eqb x.id x.id refl)

pub stepped-else : (x : XdgSurface) (surface : ℕ) (step : XdgSurface → XdgSurface) (shell : Shell) → IsFound x shell → ((y : XdgSurface) → (step y).surface ≡ y.surface) → x.surface ≢ surface
    → xdg_of surface (with_xdg_change x.id step shell) ≡ xdg_of surface shell
stepped-else x surface step shell is keeps other =
    changed-elsewhere has_xdg x.id x step (has_surface surface) shell (ids-apart shell is.apart) is.at_id (ne_eqb x.surface surface other)
    (ne_eqb (step x).surface surface (λ e. other (sym (keeps x) ∙ e)))

-- one goes
pub left-else : (x : XdgSurface) (surface : ℕ) (shell : Shell) → IsFound x shell → x.surface ≢ surface → xdg_of surface (without_xdg x.id shell) ≡ xdg_of surface shell
left-else x surface shell is other =
    left-elsewhere has_xdg x.id x (has_surface surface) shell (ids-apart shell is.apart) is.at_id (ne_eqb x.surface surface other)

pub left-none : (x : XdgSurface) (shell : Shell) → IsFound x shell → xdg_of x.surface (without_xdg x.id shell) ≡ None
left-none x shell is =
    left-here has_xdg x.id x has_surface x.surface shell (ids-apart shell is.apart) (surfaces-apart shell is.apart) is.at_id (eq-eqb x.surface x.surface refl)
