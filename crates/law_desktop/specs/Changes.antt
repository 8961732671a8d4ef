-- What a message of a client does to the windows of the desktop: it changes those that are stacked with one toplevel, or none.
use Rattle.std.specs.Prelude.{ℕ, ◌≡◌, ◌==◌, true, is_some}
use Rattle.std.specs.List.{All, list_any}
use Rattle.wl_surface.specs.Surfaces.{history_in}
use Rattle.wl_surface.specs.Hanging.{AreNumbered, AreTied}
use Rattle.wl_surface.specs.TreeLaws.{AreOnceLinked}
use Rattle.wl_shell.specs.Shell.{xdg_of}
use Rattle.spec_desktop.specs.Popups.{stacked_popups}
use Rattle.spec_desktop.specs.Stacking.{is_of, shows_buffer}
use Rattle.spec_desktop.specs.Desktop.{Desktop, owned_in}
use Rattle.spec_desktop.specs.Marks.{AreDistinct}
use Rattle.spec_desktop.specs.Moments.{applied_between}
use Rattle.spec_desktop.specs.Stacked.{all_windows}
use Rattle.law_desktop.specs.Apart.{AreApartBy}
use Rattle.law_desktop.specs.Soundness.{IsNoChild, IsSound}
use Rattle.law_desktop.specs.Standing.{HasMappedToplevel}
use Rattle.law_desktop.specs.TreeMarksLaws.{AreUndamaged}

-- No window changes, no damage is applied to the surface of one, and no surface has two.
pub record StaysPainted (d e : Desktop) : Type 0 where
  pub windows : all_windows e ≡ all_windows d
  pub undamaged : AreUndamaged (applied_between d e) (all_windows d)
  pub distinct : AreDistinct (all_windows d)

-- Toplevels, popups and subsurfaces make trees, and none is two of these. Of each client the links are told apart, by number and, while they
-- live, by child, and hang together with what was asked of the surfaces; no surface has two xdg_surfaces, no id is of two of these, and a
-- surface that has one is no child; those toplevels that stand are mapped, and they and the popups that are mapped show buffers.
pub record HasTrees (d : Desktop) : Type 0 where
  pub sound : IsSound d
  pub once : (c : ℕ) → AreOnceLinked (owned_in d c).surfaces.links
  pub numbered : (c : ℕ) → AreNumbered (owned_in d c).surfaces.links
  pub tied : (c : ℕ) → AreTied (owned_in d c).surfaces
  pub xdg_apart : (c : ℕ) → AreApartBy (λ surface x. x.surface == surface) (owned_in d c).shell
  pub ids_apart : (c : ℕ) → AreApartBy (λ id x. x.id == id) (owned_in d c).shell
  pub xdg_roots :
      (c surface : ℕ) → is_some (xdg_of surface (owned_in d c).shell) ≡ true → IsNoChild surface (owned_in d c).surfaces
  pub mapped :
      (c surface : ℕ) → list_any (is_of c surface) d.standing ≡ true → HasMappedToplevel (xdg_of surface (owned_in d c).shell)
  pub toplevels_show :
      (c surface : ℕ) → list_any (is_of c surface) d.standing ≡ true
      → shows_buffer (history_in surface (owned_in d c).surfaces) ≡ true
  pub popups_show :
      (c : ℕ)
      → All (λ p. p.is_mapped ≡ true → shows_buffer (history_in p.surface (owned_in d c).surfaces) ≡ true) (stacked_popups (owned_in d c))
