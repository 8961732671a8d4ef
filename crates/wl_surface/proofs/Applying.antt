-- After a tree is applied, what is kept stands for what was asked, and what is told is so.
use Rattle.std.proofs.Common.{◌≡◌, ℕ, ◌==◌, ◌||◌, Bool, true, false, cond, Option, Some, None, List, [], ◌∷◌, ◌++◌, map, refl, ap, sym, subst, ◌∙◌, arith}
use Rattle.std.specs.Prelude.{◌&&◌, count_by, find, if◌then◌else◌, is_some, not}
use Rattle.std.specs.List.{list_any}
use Rattle.std.specs.Option.{option_map}
use Rattle.std.proofs.Math.Path.{fun_ext}
use Rattle.std.proofs.lemmas.Bool.{eqb-true}
use Rattle.wl_links.specs.Stacks.{Stacks}
use Rattle.wl_links.specs.declared.trees.Place.{Place}
use Rattle.wl_links.specs.Trees.{has_place, is_under}
use Rattle.wl_links.specs.Family.{Links, Tied, applied, links_in, parents_of, stacks_in}
use Rattle.wl_surface.specs.Surface.{Surface, applying}
use Rattle.wl_surface.specs.declared.applied.Change.{Change}
use Rattle.wl_surface.specs.Applied.{AreFreed}
use Rattle.wl_surface.specs.Slots.{IsAny, Numbered, Slots, StandForAll, shows_at}
use Rattle.wl_surface.specs.Surfaces.{Surfaces, surface_at}
use Rattle.wl_surface.specs.Trees.{applied_tree, descends_from, levels, link_of, of_parent}
use Rattle.wl_surface.specs.TreeLaws.{links_of}
use Rattle.wl_surface.proofs.TreesApplying.{applies-descendants}
use Rattle.wl_surface.proofs.Coming.{applies-tree}
use Rattle.wl_surface.proofs.Parents.{same-descent}
use Rattle.wl_surface.specs.Linked.{Stand, numbered}
use Rattle.wl_surface.proofs.Marked.{told-marked}
use Rattle.wl_surface.specs.Seen.{AreToldMarked}
use Rattle.wl_surface.specs.Tree.{AreOnce, IsTold, applied_among, is_among, shown_among, stacks_among}

-- ---- surfaces of which some are applied

kept-id : (b : Bool) (s : Surface) → (cond b (applying s) s).id ≡ s.id
kept-id true s = refl
kept-id false s = refl

pub found-where : (n : ℕ) (p : ℕ → Bool) (xs : List Surface)
    → find (λ s. s.id == n) (map (λ s. cond (p s.id) (applying s) s) xs) ≡ (if p n then option_map applying (find (λ s. s.id == n) xs) else find (λ s. s.id == n) xs)
found-where n p [] = by (p n)
  where
    by : (b : Bool) → None ≡ (if b then option_map applying None else None)
    by true = refl
    by false = refl
found-where n p (x ∷ xs) = at (x.id == n) refl (found-where n p xs)
  where
    here : (b : Bool) → Some (cond b (applying x) x) ≡ (if b then option_map applying (Some x) else Some x)
    here true = refl
    here false = refl

    at : (b : Bool) → (x.id == n) ≡ b
        → find (λ s. s.id == n) (map (λ s. cond (p s.id) (applying s) s) xs) ≡ (if p n then option_map applying (find (λ s. s.id == n) xs) else find (λ s. s.id == n) xs)
        → find (λ s. s.id == n) (map (λ s. cond (p s.id) (applying s) s) (x ∷ xs)) ≡ (if p n then option_map applying (find (λ s. s.id == n) (x ∷ xs)) else find (λ s. s.id == n) (x ∷ xs))
    at true e next =
        let first = ap (λ m. m == n) (kept-id (p x.id) x) ∙ e in
        rw (first, e) (ap (λ m. Some (cond (p m) (applying x) x)) (eqb-true x.id n e) ∙ here (p n))
    at false e next =
        let first = ap (λ m. m == n) (kept-id (p x.id) x) ∙ e in
        rw (first, e) next

pub same-there : (b : Bool) (o : Option Surface) → is_some (if b then option_map applying o else o) ≡ is_some o
same-there true None = refl
same-there true (Some s) = refl
same-there false o = refl

-- ---- a tree is applied

module _ (slots new : Slots) (tied after : Tied) (all : Surfaces) (surface : ℕ) (below : List ℕ) (stand : Stand slots tied all)
    (those : (n : ℕ) → is_among below n ≡ is_under 16 (parents_of (links_in tied)) surface n) where
  same-links : links_in tied ≡ links_of all
  same-links = fun_ext stand.hang.0.links

  pub descend : (n : ℕ) → is_among below n ≡ descends_from 16 all surface n
  descend n = those n ∙ ap (λ (links : Links). is_under 16 (parents_of links) surface n) same-links ∙ sym (same-descent all 16 surface n)

  pub numbered-so : numbered (applied_tree levels surface all) ≡ applied_among below (numbered all)
  numbered-so = fun_ext (λ n.
      ap (λ (a : Surfaces). surface_at n a) (applies-descendants all stand.hang.1.once 16 surface) ∙ found-where n (descends_from 16 all surface) all.surfaces
      ∙ ap (λ b. if b then option_map applying (surface_at n all) else surface_at n all) (sym (descend n)))

  pub tree-stands : ((named : Numbered) → StandForAll slots named → StandForAll new (applied_among below named)) → links_in after ≡ links_in tied → after.places ≡ tied.places
      → stacks_in after ≡ stacks_among below (stacks_in tied) → Stand new after (applied_tree levels surface all)
  tree-stands stands links places stacks = record {
    surfaces = subst (λ (named : Numbered). StandForAll new named) (sym numbered-so) (stands (numbered all) stand.surfaces);
    hang = applies-tree tied after all surface links
        (λ n. ap (λ (ss : ℕ → Stacks). ss n) stacks ∙ ap (λ b. if b then applied (stacks_in tied n) else stacks_in tied n) (descend n)) stand.hang;
    there = λ n is.
        ap (λ (named : Numbered). is_some (named n)) numbered-so ∙ same-there (is_among below n) (surface_at n all)
        ∙ stand.there n (subst (λ (ps : List Place). has_place n ps ≡ true) places is);
  }

  pub tree-told : {A : Type 0} (before changes : List (Change A)) → before ≡ [] → AreOnce below → AreToldMarked before below (numbered all) changes → IsTold surface all changes
  tree-told before changes none once told = record {
    numbers = below;
    once = once;
    those = descend;
    told = told-marked below (numbered all) before changes none told;
  }

  -- the surface itself is among them
  pub itself-below : is_among below surface ≡ true
  unfolding descends_from
  itself-below = descend surface ∙ here (surface == surface) (grind (arith))
    where
      here : (b : Bool) → b ≡ true → (b || of_parent false (λ parent. descends_from 15 all surface parent) (link_of surface all)) ≡ true
      here true e = refl
      here false e = absurd (cc)

-- ---- freed buffers

and-false : (x : Bool) → (x && false) ≡ false
and-false true = refl
and-false false = refl

pub any-there : (q : ℕ → Bool) (n : ℕ) (ns : List ℕ) → is_among ns n ≡ true → q n ≡ true → list_any q ns ≡ true
any-there q n [] is e = absurd (cc)
any-there q n (m ∷ ms) is e = at (m == n) refl is (λ later. any-there q n ms later e)
  where
    or-true : (b : Bool) → (b || true) ≡ true
    or-true true = refl
    or-true false = refl

    at : (b : Bool) → (m == n) ≡ b → (b || is_among ms n) ≡ true → (is_among ms n ≡ true → list_any q ms ≡ true) → (q m || list_any q ms) ≡ true
    at true same is later = ap (λ k. q k || list_any q ms) (eqb-true m n same) ∙ ap (λ b. b || list_any q ms) e
    at false same is later = ap (λ b. q m || b) (later is) ∙ or-true (q m)

any-none : (q : ℕ → Bool) (ns : List ℕ) → ((n : ℕ) → q n ≡ false) → list_any q ns ≡ false
any-none q [] none = refl
any-none q (n ∷ ns) none = ap (λ b. b || list_any q ns) (none n) ∙ any-none q ns none

-- The freed buffers are those that one of these surfaces showed and none shows any more. The others
-- show what they did.
pub freed-so : (old now : Numbered) (below shown freed : List ℕ) → ((b : ℕ) → is_among shown b ≡ shown_among below old b)
    → ((n : ℕ) → is_among below n ≡ false → (b : ℕ) → shows_at b (now n) ≡ shows_at b (old n))
    → ((b : ℕ) (is : Bool) → IsAny (shows_at b) now is → count_by (λ n. n == b) freed ≡ cond (is_among shown b && not is) 1 0) → AreFreed freed old now
freed-so old now below shown freed candidates others counted b was is w i = counted b is i ∙ ap (λ x. cond x 1 0) (same was is w i)
  where
    there : (n : ℕ) → shows_at b (old n) ≡ true → ((m : ℕ) → shows_at b (now m) ≡ false) → (k : Bool) → is_among below n ≡ k → is_among shown b ≡ true
    there n e none true is_below = candidates b ∙ any-there (λ m. shows_at b (old m)) n below is_below e
    there n e none false is_below = absurd (differ (sym e ∙ sym (others n is_below b) ∙ none n))
      where
        differ : true ≡ false → ⊥
        differ f = absurd (cc)

    same : (was is : Bool) → IsAny (shows_at b) old was → IsAny (shows_at b) now is → (is_among shown b && not is) ≡ (was && not is)
    same was true w i = and-false (is_among shown b) ∙ sym (and-false was)
    same true false w i = ap (λ x. x && true) (there w.0 w.1 i (is_among below w.0) refl)
    same false false w i = ap (λ x. x && true) (candidates b ∙ any-none (λ n. shows_at b (old n)) below w)

-- ---- the surfaces that aren't applied

pub unapplied : (below : List ℕ) (named : Numbered) (n : ℕ) → is_among below n ≡ false → applied_among below named n ≡ named n
unapplied below named n e = ap (λ b. if b then option_map applying (named n) else named n) e

pub other-than : (below : List ℕ) (surface n : ℕ) → is_among below surface ≡ true → is_among below n ≡ false → (n == surface) ≡ false
other-than below surface n there none = at (n == surface) refl
  where
    at : (b : Bool) → (n == surface) ≡ b → (n == surface) ≡ false
    at false e = e
    at true e = absurd (differ (sym there ∙ ap (is_among below) (sym (eqb-true n surface e)) ∙ none))
      where
        differ : true ≡ false → ⊥
        differ f = absurd (cc)

module _ (slots new : Slots) (tied after : Tied) (all : Surfaces) (surface : ℕ) (below : List ℕ) (stand : Stand slots tied all)
    (those : (n : ℕ) → is_among below n ≡ is_under 16 (parents_of (links_in tied)) surface n) where
  -- the buffers that applying a tree frees
  pub tree-freed : (shown freed : List ℕ) → ((b : ℕ) → is_among shown b ≡ shown_among below (numbered all) b)
      → ((b : ℕ) (is : Bool) → IsAny (shows_at b) (numbered (applied_tree levels surface all)) is → count_by (λ n. n == b) freed ≡ cond (is_among shown b && not is) 1 0)
      → AreFreed freed (numbered all) (numbered (applied_tree levels surface all))
  tree-freed shown freed candidates counted =
      freed-so (numbered all) (numbered (applied_tree levels surface all)) below shown freed candidates
      (λ n none b. ap (λ (named : Numbered). shows_at b (named n)) (numbered-so slots new tied after all surface below stand those) ∙ ap (shows_at b) (unapplied below (numbered all) n none)) counted

-- where nothing is applied, nothing is freed
pub nothing-freed : (named : Numbered) → AreFreed [] named named
nothing-freed named b true true w i = refl
nothing-freed named b false false w i = refl
nothing-freed named b true false w i = absurd (differ (sym w.1 ∙ i w.0))
  where
    differ : true ≡ false → ⊥
    differ f = absurd (cc)
nothing-freed named b false true w i = refl
