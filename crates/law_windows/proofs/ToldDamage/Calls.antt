-- What each call tells.
use Rattle.std.proofs.Common.{◌≡◌, ℕ, ◌==◌, Bool, true, false, cond, Option, Some, None, refl, ap, sym, ◌∙◌}
use Rattle.std.specs.Option.{option_map}
use Rattle.wl_surface.specs.Request.{Commit}
use Rattle.wl_surface.specs.State.{History}
use Rattle.wl_surface.specs.Surface.{asking}
use Rattle.wl_surface.specs.Surfaces.{Surfaces, history_in, with_change}
use Rattle.wl_surface.specs.Trees.{behaves_synchronised, committed_in, levels}
use Rattle.wl_surface.proofs.Hanging.{history-changed, with_asked}
use Rattle.law_windows.specs.ToldLaws.{CommitTellsApplied}
use Rattle.law_windows.proofs.ToldDamage.Telling.{cut_of, told-from, told-unless}

-- ---- a commit

-- one request more leaves each cut where it is
same-cuts : (surface : ℕ) (all : Surfaces) (n : ℕ) → cut_of (history_in n all) ≡ cut_of (history_in n (with_change surface (asking Commit) all))
same-cuts surface all n =
    at (n == surface) (history_in n all) ∙ sym (ap cut_of (history-changed n surface (asking Commit) (with_asked Commit) all (λ s. refl) (λ s. refl)))
  where
    at : (b : Bool) (o : Option History) → cut_of o ≡ cut_of (option_map (λ h. cond b (with_asked Commit h) h) o)
    at b None = refl
    at true (Some h) = refl
    at false (Some h) = refl

pub commit-tells : (A : Type 0) → CommitTellsApplied A
commit-tells A surface all changes once told =
    let held = with_change surface (asking Commit) all in
    told-from all held (committed_in surface all) changes (same-cuts surface all)
    (told-unless (behaves_synchronised levels all surface) surface held changes once told)
