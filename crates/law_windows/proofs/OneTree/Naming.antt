-- The surfaces of a client under other names: which are there after each call, how deep they stand, and how their links are told apart.
use Rattle.std.proofs.Common.{◌≡◌, ℕ, zero, suc, ◌≤◌, ◌==◌, ◌&&◌, ◌||◌, Bool, true, false, cond, Option, Some, None, List, [], ◌∷◌, map, is_some, refl, ap, sym, ◌∙◌, arith}
use Rattle.std.specs.Prelude.{filter, find, fold, not}
use Rattle.std.specs.List.{AllByRecursion, list_any}
use Rattle.std.specs.Option.{option_map}
use Rattle.std.proofs.lemmas.Bool.{eqb-true, false_from_ne_true, or_from}
use Rattle.std.proofs.lemmas.List.Elements.{recursion_from_All}
use Rattle.std.proofs.lemmas.Option.{none-some}
use Rattle.wl_surface.specs.Request.{Commit}
use Rattle.wl_surface.specs.State.{History}
use Rattle.wl_surface.specs.Surface.{Surface, applying, asking}
use Rattle.wl_surface.specs.Surfaces.{Link, Surfaces, history_in, link_at, surface_at, with_change}
use Rattle.wl_surface.specs.Trees.{applied_tree, applied_unless, behaves_synchronised, children_of, committed_in, depth, desynchronised_in, destroyed_in, ended_in, in_mode}
use Rattle.wl_surface.specs.Trees.{levels, link_of, links_with, of_parent, released_in, unlinked, with_link}
use Rattle.wl_surface.specs.Hanging.{AreNumbered}
use Rattle.wl_surface.specs.TreeLaws.{AreOnceLinked, is_live_of}
use Rattle.law_desktop.specs.Soundness.{AreTrees}
use Rattle.wl_surface.proofs.TreesEnding.{live-parts}
use Rattle.law_desktop.proofs.Lists.Keys.{found-map, found-passes, none-left}
use Rattle.law_desktop.proofs.Marks.Stacks.{equal-numbers}
use Rattle.law_desktop.proofs.Truth.{differ, or-left, or-right}
use Rattle.law_desktop.proofs.TreeSteps.Descents.{found-number}
use Rattle.law_desktop.specs.RenamingLaws.{KeepsPlaces}
use Rattle.law_desktop.specs.Renaming.{HasEnds, IsRenaming, has_surface, renamed, renamed_link}
use Rattle.law_windows.specs.ToldLaws.{AreShallow}

-- ---- which surfaces are there

-- a change that keeps the ids of surfaces
mapped-there : (g : Surface → Surface) → ((s : Surface) → (g s).id ≡ s.id) → (id : ℕ) (ss : List Surface)
    → is_some (find (λ (s : Surface). s.id == id) (map g ss)) ≡ is_some (find (λ (s : Surface). s.id == id) ss)
mapped-there g keeps id ss =
    ap (λ (o : Option Surface). is_some o) (found-map (λ (s : Surface). s.id == id) g ss (λ s. ap (λ n. n == id) (keeps s))) ∙ at (find (λ (s : Surface). s.id == id) ss)
  where
    at : (o : Option Surface) → is_some (option_map g o) ≡ is_some o
    at None = refl
    at (Some s) = refl

changed-there : (n : ℕ) (change : Surface → Surface) → ((s : Surface) → (change s).id ≡ s.id) → (id : ℕ) (all : Surfaces) → has_surface id (with_change n change all) ≡ has_surface id all
changed-there n change keeps id all = mapped-there (λ s. cond (s.id == n) (change s) s) (λ s. at s (s.id == n)) id all.surfaces
  where
    at : (s : Surface) (b : Bool) → (cond b (change s) s).id ≡ s.id
    at s true = keeps s
    at s false = refl

fold-there : {X : Type 0} (id : ℕ) (step : Surfaces → X → Surfaces) → ((all : Surfaces) (x : X) → has_surface id (step all x) ≡ has_surface id all) → (xs : List X) (all : Surfaces)
    → has_surface id (fold step all xs) ≡ has_surface id all
fold-there id step keeps [] all = refl
fold-there id step keeps (x ∷ xs) all = fold-there id step keeps xs (step all x) ∙ keeps all x

tree-there : (n surface id : ℕ) (all : Surfaces) → has_surface id (applied_tree n surface all) ≡ has_surface id all
unfolding applied_tree
tree-there zero surface id all = refl
tree-there (suc n) surface id all =
    fold-there id (λ done child. applied_tree n child done) (λ done child. tree-there n child id done) (children_of surface all) (with_change surface applying all)
    ∙ changed-there surface applying (λ s. refl) id all

unless-there : (b : Bool) (surface id : ℕ) (all : Surfaces) → has_surface id (applied_unless b surface all) ≡ has_surface id all
unless-there true surface id all = refl
unless-there false surface id all = tree-there levels surface id all

pub commit-there : (surface id : ℕ) (all : Surfaces) → has_surface id (committed_in surface all) ≡ has_surface id all
commit-there surface id all =
    unless-there (behaves_synchronised levels all surface) surface id (with_change surface (asking Commit) all) ∙ changed-there surface (asking Commit) (λ s. refl) id all

pub desync-there : (number id : ℕ) (all : Surfaces) → has_surface id (desynchronised_in number all) ≡ has_surface id all
desync-there number id all = at (link_at number all)
  where
    free : Surfaces
    free = with_link number (in_mode false) all

    at : (o : Option Link) → has_surface id (released_in o all free) ≡ has_surface id all
    at None = refl
    at (Some l) = unless-there (not (behaves_synchronised levels all l.child) || behaves_synchronised levels free l.child) l.child id free

ended-there : (id : ℕ) (all : Surfaces) (l : Link) → has_surface id (ended_in all l) ≡ has_surface id all
ended-there id all l = tree-there levels l.child id _

pub unlink-there : (number id : ℕ) (all : Surfaces) → has_surface id (unlinked number all) ≡ has_surface id all
unlink-there number id all = fold-there id ended_in (ended-there id) (filter (λ l. not l.has_ended && l.number == number) all.links) all

some-there : (o : Option Surface) → is_some o ≡ false → o ≡ None
some-there None e = refl
some-there (Some s) e = absurd (cc)

-- of those that are left each was there
pub end-there : (surface id : ℕ) (all : Surfaces) → has_surface id (destroyed_in surface all) ≡ true → has_surface id all ≡ true
end-there surface id all there = at (has_surface id all) refl
  where
    rest : Surfaces
    rest = fold ended_in all (links_with surface all)

    at : (b : Bool) → has_surface id all ≡ b → b ≡ true
    at true e = refl
    at false e =
        let none : surface_at id rest ≡ None = some-there (surface_at id rest) (fold-there id ended_in (ended-there id) (links_with surface all) all ∙ e) in
        absurd (differ (sym (ap (λ (o : Option Surface). is_some o) (none-left (λ (s : Surface). s.id == id) (λ (s : Surface). not (s.id == surface)) rest.surfaces none)) ∙ there))

-- a surface that something was asked of is there
pub history-there : (id : ℕ) (all : Surfaces) (h : History) → history_in id all ≡ Some h → has_surface id all ≡ true
history-there id all h e = at (surface_at id all) e
  where
    at : (o : Option Surface) → option_map (λ (s : Surface). s.history) o ≡ Some h → is_some o ≡ true
    at None e = absurd (cc)
    at (Some s) e = refl

-- ---- links under other names

pub numbered-named : (f : ℕ → ℕ) (ls : List Link) → AreNumbered ls → AreNumbered (map (renamed_link f) ls)
numbered-named f [] apart = tt
numbered-named f (l ∷ ls) apart = (any l.number ls ∙ apart.0, numbered-named f ls apart.1)
  where
    any : (number : ℕ) (ks : List Link) → list_any (λ (k : Link). k.number == number) (map (renamed_link f) ks) ≡ list_any (λ (k : Link). k.number == number) ks
    any number [] = refl
    any number (k ∷ ks) = ap (λ b. (k.number == number) || b) (any number ks)

module _ (f : ℕ → ℕ) (all : Surfaces) (is : IsRenaming f all) where
  -- a link that lives has under its names the child of another that does only where it has the same child
  same-child : (l k : Link) → HasEnds all l → HasEnds all k → l.has_ended ≡ false → is_live_of l.child k ≡ false → is_live_of (f l.child) (renamed_link f k) ≡ true → ⊥
  same-child l k ends are lives other same =
      let parts = live-parts k.has_ended (f k.child == f l.child) same in
      let one = is.apart k.child l.child (are parts.0).0 (ends lives).0 (eqb-true (f k.child) (f l.child) parts.1) in
      differ (sym other ∙ (ap (λ b. not b && k.child == l.child) parts.0 ∙ equal-numbers k.child l.child one))

  none-named : (l : Link) → HasEnds all l → l.has_ended ≡ false → (ks : List Link) → AllByRecursion (HasEnds all) ks → list_any (is_live_of l.child) ks ≡ false
      → list_any (is_live_of (f l.child)) (map (renamed_link f) ks) ≡ false
  none-named l ends lives [] are none = refl
  none-named l ends lives (k ∷ ks) are none =
      or_from (is_live_of (f l.child) (renamed_link f k)) (list_any (is_live_of (f l.child)) (map (renamed_link f) ks))
      (false_from_ne_true (is_live_of (f l.child) (renamed_link f k)) (same-child l k ends are.0 lives (or-left (is_live_of l.child k) (list_any (is_live_of l.child) ks) none)))
      (none-named l ends lives ks are.1 (or-right (is_live_of l.child k) (list_any (is_live_of l.child) ks) none))

  once-named : (ls : List Link) → AllByRecursion (HasEnds all) ls → AreOnceLinked ls → AreOnceLinked (map (renamed_link f) ls)
  once-named [] ends once = tt
  once-named (l ∷ ls) ends once = (λ lives. none-named l ends.0 lives ls ends.1 (once.0 lives), once-named ls ends.1 once.1)

  ends : AllByRecursion (HasEnds all) all.links
  ends = recursion_from_All (HasEnds all) all.links is.ends

  pub once-renamed : AreOnceLinked all.links → AreOnceLinked (renamed f all).links
  once-renamed once = once-named all.links ends once

  -- ---- how deep

  -- what is found of other links is made of one of these
  found-of : (p : Link → Bool) (ls : List Link) → AllByRecursion (HasEnds all) ls → (l : Link) → find p (map (renamed_link f) ls) ≡ Some l
      → (k : Link) × HasEnds all k × (p (renamed_link f k) ≡ true)
  found-of p [] are l e = absurd (none-some l e)
  found-of p (k ∷ ks) are l e = at (p (renamed_link f k)) refl e (found-of p ks are.1 l)
    where
      at : (b : Bool) → p (renamed_link f k) ≡ b → cond b (Some (renamed_link f k)) (find p (map (renamed_link f) ks)) ≡ Some l
          → (find p (map (renamed_link f) ks) ≡ Some l → (k : Link) × HasEnds all k × (p (renamed_link f k) ≡ true))
          → (k : Link) × HasEnds all k × (p (renamed_link f k) ≡ true)
      at true passes e rest = (k, are.0, passes)
      at false fails e rest = rest e

  pub shallow-renamed : KeepsPlaces → AreShallow all → AreShallow (renamed f all)
  unfolding depth
  shallow-renamed places shallow surface = at (link_of surface (renamed f all)) refl
    where
      none-above : (n : ℕ) → n ≡ 0 → n ≤ 16
      none-above n e = omega arith

      as-deep : (m n : ℕ) → m ≡ n → n ≤ 16 → m ≤ 16
      as-deep m n e low = omega arith

      at : (o : Option Link) → link_of surface (renamed f all) ≡ o → depth levels (renamed f all) surface ≤ 16
      at None none = none-above (depth levels (renamed f all) surface) (ap (of_parent 0 (λ parent. suc (depth 16 (renamed f all) parent))) none)
      at (Some l) e =
          let it = found-of (is_live_of surface) all.links ends l e in
          let parts = live-parts it.0.has_ended (f it.0.child == surface) it.2 in
          as-deep (depth levels (renamed f all) surface) (depth levels all it.0.child)
          (sym (ap (depth levels (renamed f all)) (eqb-true (f it.0.child) surface parts.1)) ∙ (places f all is levels it.0.child (it.1 parts.0).0).depth)
          (shallow it.0.child)

not-deeper : (a p s : ℕ) → a ≤ p → s ≡ suc p → suc a ≤ s
not-deeper a p s low e = omega arith

module _ (all : Surfaces) (trees : AreTrees all) (apart : AreNumbered all.links) where
  -- a surface stands a level deeper than its parent
  deeper : (surface : ℕ) (l : Link) → link_of surface all ≡ Some l → trees.depth surface ≡ suc (trees.depth l.parent)
  deeper surface l e =
      let parts = live-parts l.has_ended (l.child == surface) (found-passes (is_live_of surface) all.links l e) in
      ap trees.depth (sym (eqb-true l.child surface parts.1))
      ∙ trees.below l.number l (record { here = found-number (is_live_of surface) all.links l apart e; lives = parts.0 })

  no-deeper : (n surface : ℕ) → depth n all surface ≤ trees.depth surface
  unfolding depth
  no-deeper zero surface = omega arith
  no-deeper (suc n) surface = at (link_of surface all) refl (λ parent. no-deeper n parent)
    where
      at : (o : Option Link) → link_of surface all ≡ o → ((parent : ℕ) → depth n all parent ≤ trees.depth parent)
          → of_parent 0 (λ parent. suc (depth n all parent)) o ≤ trees.depth surface
      at None e next = omega arith
      at (Some l) e next = not-deeper (depth n all l.parent) (trees.depth l.parent) (trees.depth surface) (next l.parent) (deeper surface l e)

  -- so none is deeper than 16
  pub trees-shallow : AreShallow all
  trees-shallow surface = within (depth levels all surface) (trees.depth surface) (no-deeper levels surface) (trees.shallow surface)
    where
      within : (a b : ℕ) → a ≤ b → b ≤ 16 → a ≤ 16
      within a b e f = omega arith
