-- After a request on one surface by itself, what is kept stands for what was asked.
use Rattle.std.proofs.Common.{◌≡◌, ℕ, ◌==◌, Bool, true, false, cond, Option, Some, None, [], ◌∷◌, refl, ap, sym, subst, ◌∙◌, arith}
use Rattle.std.specs.Prelude.{is_some}
use Rattle.std.specs.Option.{option_or}
use Rattle.std.proofs.lemmas.Bool.{eqb-true}
use Rattle.std.proofs.lemmas.List.Folds.{find-append}
use Rattle.wl_links.specs.Family.{Tied, is_there, stacks_in}
use Rattle.wl_links.specs.Stacks.{Stacks}
use Rattle.wl_surface.specs.declared.role.Role.{Role}
use Rattle.wl_surface.specs.Hanging.{Hang}
use Rattle.wl_surface.specs.Linked.{Stand, numbered}
use Rattle.wl_surface.specs.Request.{Request}
use Rattle.wl_surface.specs.Slots.{Changes, Slots, StandForAll, StandsAt, kept_at, with_at}
use Rattle.wl_surface.specs.Stacks.{is_about_children}
use Rattle.wl_surface.specs.State.{is_commit}
use Rattle.wl_surface.specs.Surface.{Surface, asking, new_surface, with_role}
use Rattle.wl_surface.specs.Surfaces.{Surfaces, surface_at, with_change, with_new}
use Rattle.wl_surface.proofs.Coming.{creates-surface}
use Rattle.wl_surface.proofs.Hanging.{asks-alone, hangs-changed, tied-changed}
use Rattle.wl_surface.proofs.Standing.{stand-changed, there-changed}

pub alone-stands : (old new : Slots) (tied : Tied) (all : Surfaces) (surface : ℕ) (r : Request) → is_about_children r ≡ false → is_commit r ≡ false
    → Changes old new surface (asking r) → Stand old tied all → Stand new tied (with_change surface (asking r) all)
alone-stands old new tied all surface r about none changes stand = record {
  surfaces = stand-changed new all surface (asking r) (λ s. refl) (changes.stand (numbered all) stand.surfaces);
  hang = asks-alone tied all surface r about none stand.hang;
  there = λ n is. there-changed all surface (asking r) (λ s. refl) n ∙ stand.there n is;
}

-- ---- a role

same-either : (b : Bool) (s : Stacks) → s ≡ cond b s s
same-either true s = refl
same-either false s = refl

role-hangs : (tied : Tied) (all : Surfaces) (surface : ℕ) (role : Role) → Hang tied all → Hang tied (with_change surface (with_role role) all)
role-hangs tied all surface role hang = (
  hangs-changed all surface (with_role role) (λ h. h) (λ s. refl) (λ s. refl) tied tied (λ s. s) refl (λ n. same-either (n == surface) (stacks_in tied n)) refl (λ h there. refl) hang.0,
  tied-changed all surface (with_role role) (λ h. h) (λ s. refl) (λ s. refl) (λ h le. le) (λ l h there. refl) (λ l h gone. refl) hang.1,
)

pub role-stands : (old new : Slots) (tied : Tied) (all : Surfaces) (surface : ℕ) (role : Role) → Changes old new surface (with_role role) → Stand old tied all
    → Stand new tied (with_change surface (with_role role) all)
role-stands old new tied all surface role changes stand = record {
  surfaces = stand-changed new all surface (with_role role) (λ s. refl) (changes.stand (numbered all) stand.surfaces);
  hang = role-hangs tied all surface role stand.hang;
  there = λ n is. there-changed all surface (with_role role) (λ s. refl) n ∙ stand.there n is;
}

-- ---- a new surface

numbered-new : (n id : ℕ) (all : Surfaces) → surface_at id all ≡ None → numbered (with_new id all) n ≡ with_at id (Some (new_surface id)) (numbered all) n
numbered-new n id all none = find-append (λ s. s.id == n) all.surfaces (new_surface id ∷ []) ∙ at (n == id) refl
  where
    last : (o : Option Surface) → option_or o None ≡ o
    last None = refl
    last (Some s) = refl

    at : (b : Bool) → (n == id) ≡ b → option_or (surface_at n all) (cond (id == n) (Some (new_surface id)) None) ≡ cond b (Some (new_surface id)) (surface_at n all)
    at true e =
        let same = eqb-true n id e in
        let here : (id == n) ≡ true = rw same (grind (arith)) in
        rw (ap (λ k. surface_at k all) same ∙ none, here) refl
    at false e =
        let other : (id == n) ≡ false = grind (arith, e) in
        rw other (last (surface_at n all))

pub new-stands : (old new : Slots) (tied : Tied) (all : Surfaces) (id : ℕ) → (surface_at id all ≡ None) → StandForAll new (with_at id (Some (new_surface id)) (numbered all))
    → Stand old tied all → Stand new tied (with_new id all)
new-stands old new tied all id none made stand = record {
  surfaces = λ n. subst (λ (at : Option Surface). StandsAt (kept_at new n) at) (sym (numbered-new n id all none)) (made n);
  hang = creates-surface tied all id none stand.hang;
  there = λ n is. ap is_some (numbered-new n id all none) ∙ at (n == id) (surface_at n all) (stand.there n is);
} where
  at : (b : Bool) (o : Option Surface) → is_some o ≡ true → is_some (cond b (Some (new_surface id)) o) ≡ true
  at true o is = refl
  at false o is = is
