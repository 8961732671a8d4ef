-- After each request of a link, what is kept stands for what was asked.
use Rattle.std.proofs.Common.{◌≡◌, ℕ, ◌==◌, ◌||◌, Bool, true, false, cond, Option, Some, None, List, [], ◌∷◌, ◌++◌, map, refl, ap, sym, subst, ◌∙◌}
use Rattle.std.specs.Prelude.{find, is_some}
use Rattle.std.specs.Option.{option_map}
use Rattle.std.proofs.lemmas.Bool.{eqb-true}
use Rattle.wl_links.specs.declared.placed.Member.{Member}
use Rattle.wl_links.specs.declared.placed.Placed.{Placed}
use Rattle.wl_links.specs.Stacks.{Stacks, added}
use Rattle.wl_links.specs.Family.{Links, Tied, at_parent, changed_at as stacks_changed_at, is_there, joined, links_in, member_of, pending_as, stacks_in, untied}
use Rattle.wl_surface.specs.Kept.{Kept}
use Rattle.wl_surface.specs.Request.{Request, AddChild, Attach, Commit, Damage, DamageBuffer, Frame, PlaceAbove, PlaceBelow, SetBufferScale, SetBufferTransform}
use Rattle.wl_surface.specs.Request.{SetInputRegion, SetOpaqueRegion, SetPosition, SetWindowGeometry}
use Rattle.wl_surface.specs.declared.role.Role.TheVariants.{Subsurface}
use Rattle.wl_surface.specs.State.{History}
use Rattle.wl_surface.specs.Surface.{Surface, asking, with_role}
use Rattle.wl_surface.proofs.Records.{For-unseen}
use Rattle.wl_surface.specs.Slots.{Changes, Numbered, Slots, StandForAll, StandsAt, changed_at, kept_at, nobody}
use Rattle.wl_surface.specs.Surfaces.{Link, Surfaces, history_in, link_at, no_surfaces, surface_at, with_change}
use Rattle.wl_links.specs.declared.trees.Place.{Place}
use Rattle.wl_links.specs.Trees.{has_place}
use Rattle.wl_surface.specs.Hanging.{AreTied, Hang}
use Rattle.wl_surface.specs.Stacks.{is_about_children}
use Rattle.wl_surface.specs.Trees.{linked}
use Rattle.wl_surface.proofs.Joining.{joins-child}
use Rattle.wl_surface.proofs.Placing.{kept-link}
use Rattle.wl_surface.specs.Linked.{IsLink, Stand, numbered}

-- ---- the surfaces by their numbers

changed-id : (b : Bool) (f : Surface → Surface) (s : Surface) → (f s).id ≡ s.id → (cond b (f s) s).id ≡ s.id
changed-id true f s same = same
changed-id false f s same = refl

found-changed : (n k : ℕ) (f : Surface → Surface) → ((s : Surface) → (f s).id ≡ s.id) → (xs : List Surface)
    → find (λ s. s.id == n) (map (λ s. cond (s.id == k) (f s) s) xs) ≡ cond (n == k) (option_map f (find (λ s. s.id == n) xs)) (find (λ s. s.id == n) xs)
found-changed n k f same [] = by (n == k)
  where
    by : (b : Bool) → None ≡ cond b (option_map f None) None
    by true = refl
    by false = refl
found-changed n k f same (x ∷ xs) = at (x.id == n) refl (found-changed n k f same xs)
  where
    here : (b : Bool) → Some (cond b (f x) x) ≡ cond b (option_map f (Some x)) (Some x)
    here true = refl
    here false = refl

    at : (b : Bool) → (x.id == n) ≡ b
        → find (λ s. s.id == n) (map (λ s. cond (s.id == k) (f s) s) xs) ≡ cond (n == k) (option_map f (find (λ s. s.id == n) xs)) (find (λ s. s.id == n) xs)
        → find (λ s. s.id == n) (map (λ s. cond (s.id == k) (f s) s) (x ∷ xs)) ≡ cond (n == k) (option_map f (find (λ s. s.id == n) (x ∷ xs))) (find (λ s. s.id == n) (x ∷ xs))
    at true e next =
        let first = ap (λ m. m == n) (changed-id (x.id == k) f x (same x)) ∙ e in
        rw (first, e) (ap (λ m. Some (cond (m == k) (f x) x)) (eqb-true x.id n e) ∙ here (n == k))
    at false e next =
        let first = ap (λ m. m == n) (changed-id (x.id == k) f x (same x)) ∙ e in
        rw (first, e) next

-- one of them changes
pub numbered-changed : (all : Surfaces) (k : ℕ) (f : Surface → Surface) → ((s : Surface) → (f s).id ≡ s.id) → (n : ℕ) → numbered (with_change k f all) n ≡ changed_at k f (numbered all) n
numbered-changed all k f same n = found-changed n k f same all.surfaces

pub there-changed : (all : Surfaces) (k : ℕ) (f : Surface → Surface) → ((s : Surface) → (f s).id ≡ s.id) → (n : ℕ) → is_some (surface_at n (with_change k f all)) ≡ is_some (surface_at n all)
there-changed all k f same n = ap is_some (numbered-changed all k f same n) ∙ by (n == k) (numbered all n)
  where
    by : (b : Bool) (o : Option Surface) → is_some (cond b (option_map f o) o) ≡ is_some o
    by true None = refl
    by true (Some s) = refl
    by false o = refl

pub stand-changed : (slots : Slots) (all : Surfaces) (k : ℕ) (f : Surface → Surface) → ((s : Surface) → (f s).id ≡ s.id) → StandForAll slots (changed_at k f (numbered all))
    → StandForAll slots (numbered (with_change k f all))
stand-changed slots all k f same stand n = subst (λ (at : Option Surface). StandsAt (kept_at slots n) at) (sym (numbered-changed all k f same n)) (stand n)

-- ---- a request about children, of which the surface keeps nothing

unseen-at : (r : Request) → is_about_children r ≡ true → (slot : Option Kept) (at : Option Surface) → StandsAt slot at → StandsAt slot (option_map (asking r) at)
unseen-at r about None None t = tt
unseen-at r about (Some k) None t = absurd t
unseen-at r about None (Some s) t = absurd t
unseen-at (AddChild l) about (Some k) (Some s) t = For-unseen k s (AddChild l) refl refl refl refl refl t
unseen-at (SetPosition l x y) about (Some k) (Some s) t = For-unseen k s (SetPosition l x y) refl refl refl refl refl t
unseen-at (PlaceAbove l m) about (Some k) (Some s) t = For-unseen k s (PlaceAbove l m) refl refl refl refl refl t
unseen-at (PlaceBelow l m) about (Some k) (Some s) t = For-unseen k s (PlaceBelow l m) refl refl refl refl refl t
unseen-at (Attach b x y) about (Some k) (Some s) t = absurd (cc)
unseen-at (Damage rect) about (Some k) (Some s) t = absurd (cc)
unseen-at (DamageBuffer rect) about (Some k) (Some s) t = absurd (cc)
unseen-at (Frame n) about (Some k) (Some s) t = absurd (cc)
unseen-at (SetOpaqueRegion o) about (Some k) (Some s) t = absurd (cc)
unseen-at (SetInputRegion o) about (Some k) (Some s) t = absurd (cc)
unseen-at (SetBufferTransform n) about (Some k) (Some s) t = absurd (cc)
unseen-at (SetBufferScale n) about (Some k) (Some s) t = absurd (cc)
unseen-at (SetWindowGeometry rect) about (Some k) (Some s) t = absurd (cc)
unseen-at Commit about (Some k) (Some s) t = absurd (cc)

pub unseen : (slots : Slots) (all : Numbered) (k : ℕ) (r : Request) → is_about_children r ≡ true → StandForAll slots all → StandForAll slots (changed_at k (asking r) all)
unseen slots all k r about stand n = by (n == k)
  where
    by : (b : Bool) → StandsAt (kept_at slots n) (cond b (option_map (asking r) (all n)) (all n))
    by true = unseen-at r about (kept_at slots n) (all n) (stand n)
    by false = stand n

-- ---- such a request is asked of a parent

pub asked-stands : (slots : Slots) (old new : Tied) (all : Surfaces) (parent : ℕ) (r : Request) → is_about_children r ≡ true → new.places ≡ old.places → Stand slots old all
    → Hang new (with_change parent (asking r) all) → Stand slots new (with_change parent (asking r) all)
asked-stands slots old new all parent r about places stand hang = record {
  surfaces = stand-changed slots all parent (asking r) (λ s. refl) (unseen slots (numbered all) parent r about stand.surfaces);
  hang = hang;
  there = λ n is. there-changed all parent (asking r) (λ s. refl) n ∙ stand.there n (subst (λ (ps : List Place). has_place n ps ≡ true) places is);
}

-- The sibling of a child is a child of its parent.
pub sibling-placed : (change : ℕ → Member → List Placed → List Placed) (old : Tied) (all : Surfaces) (number : ℕ) (link : Link) (child sibling : ℕ) → IsLink all number child link → Hang old all
    → at_parent (λ parent. pending_as (change child (member_of parent sibling))) (links_in old child) (stacks_in old)
    ≡ at_parent (λ parent. pending_as (change link.child (member_of link.parent sibling))) (links_in old link.child) (stacks_in old)
sibling-placed change old all number link child sibling is hang =
    let kept = kept-link old all number link hang is.here is.lives in
    subst
    (λ c. at_parent (λ parent. pending_as (change c (member_of parent sibling))) (links_in old c) (stacks_in old)
    ≡ at_parent (λ parent. pending_as (change link.child (member_of link.parent sibling))) (links_in old link.child) (stacks_in old))
    is.of_child
    (ap (λ o. at_parent (λ parent. pending_as (change link.child (member_of parent sibling))) o (stacks_in old)) kept
    ∙ sym (ap (λ o. at_parent (λ parent. pending_as (change link.child (member_of link.parent sibling))) o (stacks_in old)) kept))

-- ---- no surfaces

nothing-tied : AreTied no_surfaces
nothing-tied = record {
  once = tt;
  apart = tt;
  cuts = λ surface h e. absurd (cc);
  named = λ surface link h e none. absurd (cc);
  placed = λ surface link h e none. absurd (cc);
  parents = λ surface number h link e there lives has. absurd (cc);
  listed = λ number link e lives. absurd (cc);
}

pub nothing-stands : (slots : Slots) (tied : Tied) → StandForAll slots nobody → tied ≡ untied → Stand slots tied no_surfaces
nothing-stands slots tied stand none = record {
  surfaces = stand;
  hang = subst (λ (t : Tied). Hang t no_surfaces) (sym none) (record { links = λ child. refl; stacks = λ surface. refl }, nothing-tied);
  there = λ n is. absurd (let e : is_there n untied ≡ true = sym (ap (is_there n) none) ∙ is in cc);
}

-- ---- one more link

hangs-still : (old new : Tied) (all : Surfaces) → links_in new ≡ links_in old → stacks_in new ≡ stacks_in old → Hang old all → Hang new all
hangs-still old new all links stacks hang = (
  record { links = λ child. ap (λ (ls : Links). ls child) links ∙ hang.0.links child; stacks = λ surface. ap (λ (ss : ℕ → Stacks). ss surface) stacks ∙ hang.0.stacks surface },
  hang.1,
)

-- Both surfaces of a link are there, and so are those that were.
come-there : (child parent n : ℕ) (old : Tied) (all : Surfaces) → is_some (surface_at child all) ≡ true → is_some (surface_at parent all) ≡ true
    → (is_there n old ≡ true → is_some (surface_at n all) ≡ true) → (n == child || (n == parent || is_there n old)) ≡ true → is_some (surface_at n all) ≡ true
come-there child parent n old all first second before is = at (n == child) (n == parent) refl refl is
  where
    at : (a b : Bool) → (n == child) ≡ a → (n == parent) ≡ b → (a || (b || is_there n old)) ≡ true → is_some (surface_at n all) ≡ true
    at true b e f is = ap (λ k. is_some (surface_at k all)) (eqb-true n child e) ∙ first
    at false true e f is = ap (λ k. is_some (surface_at k all)) (eqb-true n parent f) ∙ second
    at false false e f is = before is

-- Without memory what is kept stands as before.
pub unlinked-stands : (slots : Slots) (old new : Tied) (all : Surfaces) (child parent : ℕ) → links_in new ≡ links_in old → stacks_in new ≡ stacks_in old
    → ((n : ℕ) → is_there n new ≡ true → (n == child || (n == parent || is_there n old)) ≡ true) → Stand slots old all → is_some (surface_at child all) ≡ true
    → is_some (surface_at parent all) ≡ true → Stand slots new all
unlinked-stands slots old new all child parent links stacks come stand first second = record {
  surfaces = stand.surfaces;
  hang = hangs-still old new all links stacks stand.hang;
  there = λ n is. come-there child parent n old all first second (stand.there n) (come n is);
}

-- The child has its role. Nothing is kept of what is asked of the parent.
pub linked-stands : (slots given : Slots) (old new : Tied) (all : Surfaces) (number child parent : ℕ) → Changes slots given child (with_role Subsurface)
    → links_in new ≡ joined child parent (links_in old) → stacks_in new ≡ stacks_changed_at parent (pending_as (added child)) (stacks_in old) → links_in old child ≡ None
    → ((n : ℕ) → is_there n new ≡ true → (n == child || (n == parent || is_there n old)) ≡ true) → Stand slots old all → link_at number all ≡ None
    → is_some (surface_at child all) ≡ true → is_some (surface_at parent all) ≡ true → Stand given new (linked number child parent all)
linked-stands slots given old new all number child parent changes links stacks root come stand free first second = record {
  surfaces = surfaces;
  hang = hang (history_in parent all) refl;
  there = λ n is. there-changed inner parent (asking (AddChild number)) (λ s. refl) n ∙ there-changed more child (with_role Subsurface) (λ s. refl) n
      ∙ come-there child parent n old all first second (stand.there n) (come n is);
} where
  more : Surfaces
  more = record all { links = all.links ++ record { number = number; child = child; parent = parent; synchronised = true; has_ended = false } ∷ [] }

  inner : Surfaces
  inner = with_change child (with_role Subsurface) more

  surfaces : StandForAll given (numbered (linked number child parent all))
  surfaces =
      stand-changed given inner parent (asking (AddChild number)) (λ s. refl)
      (unseen given (numbered inner) parent (AddChild number) refl
      (stand-changed given more child (with_role Subsurface) (λ s. refl) (changes.stand (numbered all) stand.surfaces)))

  hang : (o : Option History) → history_in parent all ≡ o → Hang new (linked number child parent all)
  hang None e = absurd (gone (surface_at parent all) second e)
    where
      gone : (o : Option Surface) → is_some o ≡ true → option_map (λ (s : Surface). s.history) o ≡ None → ⊥
      gone None f g = absurd (cc)
      gone (Some s) f g = absurd (cc)
  hang (Some h) e = joins-child old new all number child parent h free root e links stacks stand.hang
