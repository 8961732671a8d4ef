-- Which surfaces of a client are there after what is done to surfaces and links.
use Rattle.std.proofs.Common.{◌≡◌, ℕ, zero, suc, Bool, true, false, List, [], ◌∷◌, ◌++◌, Option, Some, None, cond, refl, ap, sym, ◌∙◌}
use Rattle.std.specs.Prelude.{◌==◌, ◌&&◌, ◌||◌, not, is_some, find, filter, fold}
use Rattle.std.specs.Option.{option_map}
use Rattle.std.proofs.lemmas.Bool.{eqb-true, true≢false}
use Rattle.wl_surface.specs.declared.role.Role.TheVariants.{Subsurface}
use Rattle.wl_surface.specs.Request.{AddChild, Commit}
use Rattle.wl_surface.specs.Surface.{Surface, applying, asking, new_surface, with_role}
use Rattle.wl_surface.specs.Surfaces.{Link, Surfaces, link_at, surface_at, with_change, with_new}
use Rattle.wl_surface.specs.Trees.{applied_tree, applied_unless, behaves_synchronised, children_of, committed_in, desynchronised_in, destroyed_in, ended_in, in_mode, levels, linked, links_with}
use Rattle.wl_surface.specs.Trees.{released_in, with_link}
use Rattle.spec_desktop.specs.Changing.{unlinked_at}
use Rattle.law_desktop.proofs.Lists.Keys.{found-map}
use Rattle.law_desktop.proofs.Marks.Stacks.{equal-numbers}
use Rattle.law_desktop.proofs.Lists.Left.{find-filter}

-- the same surfaces are there
abbrev pub There : Surfaces → Surfaces → Type 0
There old new = (id : ℕ) → is_some (surface_at id new) ≡ is_some (surface_at id old)

-- ---- lists

still : {X : Type 0} (f : X → X) (o : Option X) → is_some (option_map f o) ≡ is_some o
still f None = refl
still f (Some x) = refl

pub some-more : {X : Type 0} (p : X → Bool) (xs : List X) (x : X) → is_some (find p xs) ≡ true → is_some (find p (xs ++ x ∷ [])) ≡ true
some-more p [] x is = absurd (true≢false (sym is))
some-more p (y ∷ ys) x is = at (p y) is (some-more p ys x)
  where
    at : (b : Bool) → is_some (cond b (Some y) (find p ys)) ≡ true → (is_some (find p ys) ≡ true → is_some (find p (ys ++ x ∷ [])) ≡ true) → is_some (cond b (Some y) (find p (ys ++ x ∷ []))) ≡ true
    at true is rest = refl
    at false is rest = rest is

pub some-last : {X : Type 0} (p : X → Bool) (xs : List X) (x : X) → p x ≡ true → is_some (find p (xs ++ x ∷ [])) ≡ true
some-last p [] x is = ap (λ b. is_some (cond b (Some x) None)) is
some-last p (y ∷ ys) x is = at (p y) (some-last p ys x is)
  where
    at : (b : Bool) → is_some (find p (ys ++ x ∷ [])) ≡ true → is_some (cond b (Some y) (find p (ys ++ x ∷ []))) ≡ true
    at true rest = refl
    at false rest = rest

-- ---- surfaces change

pub there-changed : (id : ℕ) (change : Surface → Surface) (all : Surfaces) → ((s : Surface) → (change s).id ≡ s.id) → There all (with_change id change all)
there-changed id change all keeps other =
    ap is_some (found-map (λ s. s.id == other) (λ s. cond (s.id == id) (change s) s) all.surfaces (λ s. same s (s.id == id)))
    ∙ still (λ s. cond (s.id == id) (change s) s) (surface_at other all)
  where
    same : (s : Surface) (b : Bool) → ((cond b (change s) s).id == other) ≡ (s.id == other)
    same s true = ap (λ i. i == other) (keeps s)
    same s false = refl

pub there-all : {X : Type 0} (step : Surfaces → X → Surfaces) → ((all : Surfaces) (x : X) → There all (step all x)) → (xs : List X) (all : Surfaces) → There all (fold step all xs)
there-all step each [] all id = refl
there-all step each (x ∷ xs) all id = there-all step each xs (step all x) id ∙ each all x id

pub there-applied : (n surface : ℕ) (all : Surfaces) → There all (applied_tree n surface all)
unfolding applied_tree
there-applied zero surface all id = refl
there-applied (suc n) surface all id =
    there-all (λ done child. applied_tree n child done) (λ done child. there-applied n child done) (children_of surface all) (with_change surface applying all) id
    ∙ there-changed surface applying all (λ s. refl) id

pub there-unless : (b : Bool) (surface : ℕ) (all : Surfaces) → There all (applied_unless b surface all)
there-unless true surface all id = refl
there-unless false surface all id = there-applied levels surface all id

pub there-committed : (surface : ℕ) (all : Surfaces) → There all (committed_in surface all)
there-committed surface all id =
    there-unless (behaves_synchronised levels all surface) surface (with_change surface (asking Commit) all) id ∙ there-changed surface (asking Commit) all (λ s. refl) id

pub there-linked : (number child parent : ℕ) (all : Surfaces) → There all (linked number child parent all)
there-linked number child parent all id =
    there-changed parent (asking (AddChild number)) (with_change child (with_role Subsurface) (more all)) (λ s. refl) id
    ∙ there-changed child (with_role Subsurface) (more all) (λ s. refl) id
  where
    more : Surfaces → Surfaces
    more all = record all { links = all.links ++ record { number = number; child = child; parent = parent; synchronised = true; has_ended = false } ∷ [] }

pub there-released : (l : Option Link) (old new : Surfaces) → There new (released_in l old new)
there-released None old new id = refl
there-released (Some l) old new id = there-unless (not (behaves_synchronised levels old l.child) || behaves_synchronised levels new l.child) l.child new id

pub there-desynchronised : (number : ℕ) (all : Surfaces) → There all (desynchronised_in number all)
there-desynchronised number all id = there-released (link_at number all) all (with_link number (in_mode false) all) id

there-ended : (all : Surfaces) (l : Link) → There all (ended_in all l)
there-ended all l id = there-applied levels l.child _ id

pub there-unlinked : (link : Option ℕ) (all : Surfaces) → There all (unlinked_at link all)
there-unlinked None all id = refl
there-unlinked (Some number) all id = there-all ended_in there-ended (filter (λ l. not l.has_ended && l.number == number) all.links) all id

-- each surface but the one that goes
pub there-destroyed : (surface : ℕ) (all : Surfaces) (id : ℕ) → (id == surface) ≡ false → is_some (surface_at id (destroyed_in surface all)) ≡ is_some (surface_at id all)
there-destroyed surface all id apart =
    ap is_some (find-filter (λ s. s.id == id) (λ s. not (s.id == surface)) (fold ended_in all (links_with surface all)).surfaces (λ s is. ap (λ i. not (i == surface)) (eqb-true s.id id is)
    ∙ ap not apart))
    ∙ there-all ended_in there-ended (links_with surface all) all id

pub there-more : (new id : ℕ) (all : Surfaces) → is_some (surface_at id all) ≡ true → is_some (surface_at id (with_new new all)) ≡ true
there-more new id all is = some-more (λ s. s.id == id) all.surfaces (new_surface new) is

pub there-new : (new : ℕ) (all : Surfaces) → is_some (surface_at new (with_new new all)) ≡ true
there-new new all = some-last (λ s. s.id == new) all.surfaces (new_surface new) (equal-numbers new new refl)
