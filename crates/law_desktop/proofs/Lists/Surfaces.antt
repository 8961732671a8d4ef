-- Surfaces by their ids, and one of them that changes.
use Rattle.std.proofs.Common.{◌≡◌, ℕ, Bool, true, false, cond, refl, ap}
use Rattle.std.specs.Prelude.{◌==◌}
use Rattle.std.specs.Option.{option_map}
use Rattle.wl_surface.specs.Surface.{Surface}
use Rattle.wl_surface.specs.Surfaces.{Surfaces, surface_at, with_change}
use Rattle.law_desktop.proofs.Lists.Keys.{found-map}

abbrev pub has_id : ℕ → Surface → Bool
has_id id s = s.id == id

abbrev pub one_changed : ℕ → (Surface → Surface) → Surface → Surface
one_changed id change s = cond (s.id == id) (change s) s

module _ (id : ℕ) (change : Surface → Surface) (keeps : (s : Surface) → (change s).id ≡ s.id) (all : Surfaces) where
  same-id : (s : Surface) (b : Bool) → (cond b (change s) s).id ≡ s.id
  same-id s true = keeps s
  same-id s false = refl

  pub changed-found : (surface : ℕ) → surface_at surface (with_change id change all) ≡ option_map (one_changed id change) (surface_at surface all)
  changed-found surface = found-map (has_id surface) (one_changed id change) all.surfaces (λ s. ap (λ n. n == surface) (same-id s (s.id == id)))
