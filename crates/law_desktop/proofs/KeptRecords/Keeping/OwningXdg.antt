-- The xdg_surfaces of a client are told apart by their ids and by their surfaces.
use Rattle.std.proofs.Common.{ℕ, ◌∷◌, Bool, ap, sym, ◌∙◌, []}
use Rattle.std.specs.Prelude.{◌==◌}
use Rattle.std.proofs.lemmas.Bool.{eqb-true}
use Rattle.wl_shell.specs.Agreement.{AreApart}
use Rattle.wl_shell.specs.Shell.{Shell, XdgSurface, xdg_at, xdg_of}
use Rattle.law_desktop.specs.Apart.{AreApartBy}

-- the tests by id, by surface and by role object
abbrev pub has_xdg : ℕ → XdgSurface → Bool
has_xdg id x = x.id == id

abbrev pub has_surface : ℕ → XdgSurface → Bool
has_surface surface x = x.surface == surface

pub ids-apart : (shell : Shell) → AreApart shell → AreApartBy has_xdg shell
ids-apart [] apart = tt
ids-apart (x ∷ xs) apart = (λ id is. ap (λ i. xdg_at i xs) (sym (eqb-true x.id id is)) ∙ apart.0, ids-apart xs apart.2)

pub surfaces-apart : (shell : Shell) → AreApart shell → AreApartBy has_surface shell
surfaces-apart [] apart = tt
surfaces-apart (x ∷ xs) apart = (λ surface is. ap (λ s. xdg_of s xs) (sym (eqb-true x.surface surface is)) ∙ apart.1, surfaces-apart xs apart.2)
