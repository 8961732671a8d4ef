-- The surfaces of a client stay told apart by their ids, whatever is done to them and to their links.
use Rattle.std.proofs.Common.{◌≡◌, ℕ, zero, suc, Bool, true, false, List, [], ◌∷◌, ◌++◌, Option, Some, None, cond, refl, ap, subst}
use Rattle.std.specs.Prelude.{◌==◌, ◌&&◌, ◌||◌, not, filter, fold}
use Rattle.std.proofs.lemmas.Bool.{eqb-true}
use Rattle.wl_surface.specs.declared.role.Role.TheVariants.{Subsurface}
use Rattle.wl_surface.specs.Request.{AddChild, Commit}
use Rattle.wl_surface.specs.Surface.{Surface, applying, asking, new_surface, with_role}
use Rattle.wl_surface.specs.Surfaces.{Link, Surfaces, link_at, surface_at, with_change, with_new}
use Rattle.wl_surface.specs.Trees.{applied_tree, applied_unless, behaves_synchronised, children_of, committed_in, desynchronised_in, destroyed_in, ended_in, in_mode, levels, linked, links_with}
use Rattle.wl_surface.specs.Trees.{released_in, with_link}
use Rattle.spec_desktop.specs.Changing.{unlinked_at}
use Rattle.law_desktop.specs.Apart.{AreApartBy}
use Rattle.law_desktop.proofs.Lists.Keys.{apart-left, apart-map, new-apart}

-- no two have one id
abbrev pub AreApart : Surfaces → Type 0
AreApart all = AreApartBy (λ id s. s.id == id) all.surfaces

-- a change that keeps ids
one-id : (id key : ℕ) (change : Surface → Surface) → ((s : Surface) → (change s).id ≡ s.id) → (s : Surface) → ((cond (s.id == id) (change s) s).id == key) ≡ (s.id == key)
one-id id key change keeps s = at (s.id == id)
  where
    at : (b : Bool) → ((cond b (change s) s).id == key) ≡ (s.id == key)
    at true = ap (λ n. n == key) (keeps s)
    at false = refl

pub apart-changed : (id : ℕ) (change : Surface → Surface) → ((s : Surface) → (change s).id ≡ s.id) → (all : Surfaces) → AreApart all → AreApart (with_change id change all)
apart-changed id change keeps all apart = apart-map (λ key s. s.id == key) (λ s. cond (s.id == id) (change s) s) all.surfaces (λ key s. one-id id key change keeps s) apart

pub apart-new : (id : ℕ) (all : Surfaces) → surface_at id all ≡ None → AreApart all → AreApart (with_new id all)
apart-new id all none apart =
    new-apart (λ key s. s.id == key) all.surfaces (new_surface id) (λ key is. subst (λ n. surface_at n all ≡ None) (eqb-true id key is) none) apart

-- ---- trees

apart-all : {X : Type 0} (step : Surfaces → X → Surfaces) → ((all : Surfaces) (x : X) → AreApart all → AreApart (step all x)) → (xs : List X) (all : Surfaces) → AreApart all
    → AreApart (fold step all xs)
apart-all step each [] all apart = apart
apart-all step each (x ∷ xs) all apart = apart-all step each xs (step all x) (each all x apart)

apart-applied : (n surface : ℕ) (all : Surfaces) → AreApart all → AreApart (applied_tree n surface all)
unfolding applied_tree
apart-applied zero surface all apart = apart
apart-applied (suc n) surface all apart =
    apart-all (λ done child. applied_tree n child done) (λ done child is. apart-applied n child done is) (children_of surface all) (with_change surface applying all)
    (apart-changed surface applying (λ s. refl) all apart)

apart-unless : (b : Bool) (surface : ℕ) (all : Surfaces) → AreApart all → AreApart (applied_unless b surface all)
apart-unless true surface all apart = apart
apart-unless false surface all apart = apart-applied levels surface all apart

pub apart-committed : (surface : ℕ) (all : Surfaces) → AreApart all → AreApart (committed_in surface all)
apart-committed surface all apart =
    apart-unless (behaves_synchronised levels all surface) surface (with_change surface (asking Commit) all) (apart-changed surface (asking Commit) (λ s. refl) all apart)

pub apart-linked : (number child parent : ℕ) (all : Surfaces) → AreApart all → AreApart (linked number child parent all)
apart-linked number child parent all apart =
    apart-changed parent (asking (AddChild number)) (λ s. refl) (with_change child (with_role Subsurface) (more all))
    (apart-changed child (with_role Subsurface) (λ s. refl) (more all) apart)
  where
    more : Surfaces → Surfaces
    more all = record all { links = all.links ++ record { number = number; child = child; parent = parent; synchronised = true; has_ended = false } ∷ [] }

apart-released : (l : Option Link) (old new : Surfaces) → AreApart new → AreApart (released_in l old new)
apart-released None old new apart = apart
apart-released (Some l) old new apart = apart-unless (not (behaves_synchronised levels old l.child) || behaves_synchronised levels new l.child) l.child new apart

pub apart-desynchronised : (number : ℕ) (all : Surfaces) → AreApart all → AreApart (desynchronised_in number all)
apart-desynchronised number all apart = apart-released (link_at number all) all (with_link number (in_mode false) all) apart

apart-ended : (all : Surfaces) (l : Link) → AreApart all → AreApart (ended_in all l)
apart-ended all l apart = apart-applied levels l.child _ apart

pub apart-unlinked : (link : Option ℕ) (all : Surfaces) → AreApart all → AreApart (unlinked_at link all)
apart-unlinked None all apart = apart
apart-unlinked (Some number) all apart = apart-all ended_in apart-ended (filter (λ l. not l.has_ended && l.number == number) all.links) all apart

pub apart-destroyed : (surface : ℕ) (all : Surfaces) → AreApart all → AreApart (destroyed_in surface all)
apart-destroyed surface all apart =
    apart-left (λ key s. s.id == key) (λ s. not (s.id == surface)) (fold ended_in all (links_with surface all)).surfaces (apart-all ended_in apart-ended (links_with surface all) all apart)
