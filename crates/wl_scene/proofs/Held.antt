-- The surface of an xdg_surface by its id, by what is kept.
use Rattle.std.proofs.Common.{◌≡◌, ◌≢◌, ℕ, Option, Some, None, refl, ap, subst, sym, ◌∙◌}
use Rattle.std.specs.Prelude.{IfSome, IsSomeAnd}
use Rattle.std.specs.Option.{option_map}
use Rattle.wl_shell.specs.Agreement.{IsShell}
use Rattle.wl_shell.specs.PopupsKept.{IsSurfaceAt}
use Rattle.wl_shell.proofs.ShellsStanding.{found-id, found-of, kept-for, there}
use Rattle.spec_desktop.specs.Popups.{surface_at_xdg}
use Rattle.wl_surface.specs.State.{History}
use Rattle.wl_shell.specs.Kept.{Kept}
use Rattle.wl_shell.specs.Shell.{Shell, XdgSurface, xdg_at, xdg_of}

module _ (kept : ℕ → Option Kept) (histories : ℕ → Option History) (shell : Shell) (is : IsShell kept histories shell) where
  -- the surface of an id
  pub surface-at : (id : ℕ) (result : Option ℕ) → IsSurfaceAt id kept result → result ≡ surface_at_xdg id shell
  surface-at id None none = at (xdg_at id shell) refl
    where
      at : (o : Option XdgSurface) → xdg_at id shell ≡ o → None ≡ option_map (λ (x : XdgSurface). x.surface) o
      at None e = refl
      at (Some x) e =
          let t = kept-for kept histories shell is x.surface x (found-of id shell x is.apart e) in
          let other : t.0.id ≢ id = subst (λ (o : Option Kept). IfSome o (λ k. k.id ≢ id)) t.2 (none x.surface) in
          absurd (other (t.3.stands.id ∙ found-id id shell x e))
  surface-at id (Some surface) found = at (kept surface) refl found
    where
      at : (k : Option Kept) → kept surface ≡ k → IsSomeAnd k (λ k. k.id ≡ id) → Some surface ≡ surface_at_xdg id shell
      at None e f = absurd f
      at (Some k) e f =
          let t = there kept histories shell is surface k e in
          let same : xdg_at id shell ≡ Some t.0 = ap (λ i. xdg_at i shell) (sym f ∙ t.2.stands.id) ∙ t.2.by_id in
          sym (ap (option_map (λ (x : XdgSurface). x.surface)) same ∙ ap Some t.2.number)

  -- where it is found, so is its xdg_surface
  pub at-surface : (id surface : ℕ) → Some surface ≡ surface_at_xdg id shell → (x : XdgSurface) × (xdg_at id shell ≡ Some x) × (xdg_of surface shell ≡ Some x)
  at-surface id surface e = at (xdg_at id shell) refl e
    where
      at : (o : Option XdgSurface) → xdg_at id shell ≡ o → Some surface ≡ option_map (λ (x : XdgSurface). x.surface) o
          → (x : XdgSurface) × (xdg_at id shell ≡ Some x) × (xdg_of surface shell ≡ Some x)
      at None f e = absurd (cc)
      at (Some x) f e =
          let same : surface ≡ x.surface = cc in
          (x, f, ap (λ s. xdg_of s shell) same ∙ found-of id shell x is.apart f)

  pub at-none : (id : ℕ) → None ≡ surface_at_xdg id shell → xdg_at id shell ≡ None
  at-none id e = at (xdg_at id shell) e
    where
      at : (o : Option XdgSurface) → None ≡ option_map (λ (x : XdgSurface). x.surface) o → o ≡ None
      at None e = refl
      at (Some x) e = absurd (cc)
