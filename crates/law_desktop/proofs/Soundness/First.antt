-- A desktop without clients is sound.
use Rattle.std.proofs.Common.{◌≡◌, ℕ, zero, suc, Option, Some, None, refl, sym, subst, arith}
use Rattle.std.specs.Prelude.{replicate}
use Rattle.spec_desktop.specs.Told.{Output}
use Rattle.wl_surface.specs.State.{History}
use Rattle.wl_surface.specs.Surfaces.{Link, no_surfaces}
use Rattle.spec_desktop.specs.Desktop.{Resident, client_at, empty, owned_of, place}
use Rattle.spec_desktop.specs.Popups.{stacked_popups}
use Rattle.law_desktop.specs.Soundness.{AreOnce, AreTrees, EmptyIsSound, IsLive, has_surface}
use Rattle.law_desktop.proofs.Truth.{differ}

no-such-link : (a : Link) → None ≡ Some a → ⊥
no-such-link a e = absurd (cc)

no-such-history : (h : History) → None ≡ Some h → ⊥
no-such-history h e = absurd (cc)

pub no-live : (k : ℕ) (a : Link) → IsLive k a no_surfaces → ⊥
no-live k a live = no-such-link a live.here

pub no-trees : AreTrees no_surfaces
no-trees =
    record {
      once = λ k l a b live other e. absurd (no-live k a live);
      ordered = λ surface counting h e. absurd (no-such-history h e);
      parents = λ surface counting number h link e there live. absurd (no-live number link live);
      depth = λ surface. 0;
      below = λ number link live. absurd (no-live number link live);
      top = λ surface no. refl;
      shallow = λ surface. omega arith;
    }

pub no-place : (n k : ℕ) → place (replicate n None) k ≡ None
no-place zero k = refl
no-place (suc n) zero = refl
no-place (suc n) (suc k) = no-place n k

pub no-client : (output : Output) (c : ℕ) → client_at c (empty output) ≡ None
no-client output zero = refl
no-client output (suc k) = no-place 32 k

pub empty_is_sound : EmptyIsSound
empty_is_sound output =
    record {
      apart = tt;
      trees = λ c. subst (λ (r : Option Resident). AreTrees (owned_of r).surfaces) (sym (no-client output c)) no-trees;
      popups = λ c. subst (λ (r : Option Resident). AreOnce (λ p. has_surface p.surface) (stacked_popups (owned_of r))) (sym (no-client output c)) tt;
      levels = λ c surface there. absurd (differ there);
      toplevel_roots = λ c surface there. absurd (differ there);
      popup_roots = λ c surface there number link live e. absurd (no-live number link (subst (λ (r : Option Resident). IsLive number link (owned_of r).surfaces) (no-client output c) live));
    }
