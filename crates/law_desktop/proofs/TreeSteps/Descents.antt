-- Which surfaces descend from which, by so many levels; and the root of each.
use Rattle.std.proofs.Common.{◌≡◌, ℕ, zero, suc, ◌+◌, ◌≤◌, ◌⊎◌, inl, inr, ◌==◌, Bool, true, false, cond, Some, None, List, [], ◌∷◌, refl, ap, sym, subst, ◌∙◌, arith, eq-eqb}
use Rattle.std.specs.Prelude.{find}
use Rattle.std.specs.List.{list_any}
use Rattle.std.proofs.lemmas.Bool.{eqb-true, or_cases, or_right}
use Rattle.std.proofs.lemmas.Option.{none-some}
use Rattle.wl_surface.specs.Surfaces.{Link, Surfaces}
use Rattle.wl_surface.specs.Trees.{descends_from, levels, link_of}
use Rattle.wl_surface.specs.Hanging.{AreNumbered}
use Rattle.wl_surface.specs.TreeLaws.{is_live_of}
use Rattle.wl_surface.proofs.TreesEnding.{live-parts}
use Rattle.wl_surface.proofs.Linking.{none-found}
use Rattle.law_desktop.specs.Soundness.{AreTrees, IsLive}
use Rattle.law_desktop.proofs.Lists.Keys.{found-passes}
use Rattle.law_desktop.proofs.Soundness.LinkedDepths.{by-link, descends-itself, descends-link, descends-none}
use Rattle.law_desktop.specs.TreeStepsLaws.{HasRoot, NoChildIsTop, RootsApart}

-- ---- levels

pub at-top : (k : ℕ) (all : Surfaces) (top s : ℕ) → s ≡ top → descends_from k all top s ≡ true
at-top k all top s same = subst (λ x. descends_from k all top x ≡ true) (sym same) (descends-itself k all top)

pub is-top : (n : ℕ) (all : Surfaces) (top s : ℕ) → link_of s all ≡ None → descends_from n all top s ≡ true → s ≡ top
is-top n all top s none under = eqb-true s top (sym (descends-none n all top s none) ∙ under)

pub at-zero : (all : Surfaces) (top s : ℕ) → descends_from zero all top s ≡ true → s ≡ top
unfolding descends_from
at-zero all top s under = eqb-true s top under

-- it is the surface, or its parent descends from it
pub either-way : (n : ℕ) (all : Surfaces) (top s : ℕ) (a : Link) → link_of s all ≡ Some a → descends_from (suc n) all top s ≡ true → ((s == top) ≡ true) ⊎ (descends_from n all top a.parent ≡ true)
either-way n all top s a e under = or_cases (s == top) (descends_from n all top a.parent) (sym (descends-link n all top s a e) ∙ under)

pub by-parent : (n : ℕ) (all : Surfaces) (top s : ℕ) (a : Link) → link_of s all ≡ Some a → descends_from n all top a.parent ≡ true → descends_from (suc n) all top s ≡ true
by-parent n all top s a e under = descends-link n all top s a e ∙ or_right (s == top) (descends_from n all top a.parent) under

-- by more levels no less descends
pub within : (m k : ℕ) (all : Surfaces) (top s : ℕ) → m ≤ k → descends_from m all top s ≡ true → descends_from k all top s ≡ true
within zero k all top s le under = at-top k all top s (at-zero all top s under)
within (suc m) zero all top s le under = absurd (omega arith)
within (suc m) (suc k) all top s le under =
    by-link (descends_from (suc k) all top s ≡ true) s all
    (λ none. at-top (suc k) all top s (is-top (suc m) all top s none under))
    (λ a e. at a e (either-way m all top s a e under) (within m k all top a.parent (omega (arith, le))))
  where
    at : (a : Link) → link_of s all ≡ Some a → ((s == top) ≡ true) ⊎ (descends_from m all top a.parent ≡ true)
        → (descends_from m all top a.parent ≡ true → descends_from k all top a.parent ≡ true) → descends_from (suc k) all top s ≡ true
    at a e (inl same) next = at-top (suc k) all top s (eqb-true s top same)
    at a e (inr up) next = by-parent k all top s a e (next up)

-- what descends from a surface descends from those that it descends from
pub through : (n m k : ℕ) (all : Surfaces) (top mid s : ℕ) → n + m ≤ k → descends_from n all mid s ≡ true → descends_from m all top mid ≡ true → descends_from k all top s ≡ true
through zero m k all top mid s le low high = within m k all top s (omega (arith, le)) (subst (λ x. descends_from m all top x ≡ true) (sym (at-zero all mid s low)) high)
through (suc n) m zero all top mid s le low high = absurd (omega arith)
through (suc n) m (suc k) all top mid s le low high =
    by-link (descends_from (suc k) all top s ≡ true) s all
    (λ none. here (is-top (suc n) all mid s none low))
    (λ a e. at a e (either-way n all mid s a e low) (λ up. through n m k all top mid a.parent (omega (arith, le)) up high))
  where
    here : s ≡ mid → descends_from (suc k) all top s ≡ true
    here same = within m (suc k) all top s (omega (arith, le)) (subst (λ x. descends_from m all top x ≡ true) (sym same) high)

    at : (a : Link) → link_of s all ≡ Some a → ((s == mid) ≡ true) ⊎ (descends_from n all mid a.parent ≡ true)
        → (descends_from n all mid a.parent ≡ true → descends_from k all top a.parent ≡ true) → descends_from (suc k) all top s ≡ true
    at a e (inl same) next = here (eqb-true s mid same)
    at a e (inr up) next = by-parent k all top s a e (next up)

-- ---- roots

-- what descends from a root, and has a parent, does so by its parent
up : (n : ℕ) (all : Surfaces) (top s : ℕ) (a : Link) → link_of top all ≡ None → link_of s all ≡ Some a → descends_from (suc n) all top s ≡ true → descends_from n all top a.parent ≡ true
up n all top s a none e under = at (either-way n all top s a e under)
  where
    at : ((s == top) ≡ true) ⊎ (descends_from n all top a.parent ≡ true) → descends_from n all top a.parent ≡ true
    at (inl same) = absurd (none-some a (sym none ∙ (ap (λ x. link_of x all) (sym (eqb-true s top same)) ∙ e)))
    at (inr higher) = higher

pub roots-same : (m n : ℕ) (all : Surfaces) (a b s : ℕ) → link_of a all ≡ None → link_of b all ≡ None → descends_from m all a s ≡ true → descends_from n all b s ≡ true → a ≡ b
roots-same zero n all a b s top-a top-b under-a under-b =
    let same = at-zero all a s under-a in
    sym same ∙ is-top n all b s (ap (λ x. link_of x all) same ∙ top-a) under-b
roots-same (suc m) zero all a b s top-a top-b under-a under-b =
    let same = at-zero all b s under-b in
    sym (is-top (suc m) all a s (ap (λ x. link_of x all) same ∙ top-b) under-a) ∙ same
roots-same (suc m) (suc n) all a b s top-a top-b under-a under-b =
    by-link (a ≡ b) s all
    (λ none. sym (is-top (suc m) all a s none under-a) ∙ is-top (suc n) all b s none under-b)
    (λ l e. roots-same m n all a b l.parent top-a top-b (up m all a s l top-a e under-a) (up n all b s l top-b e under-b))

pub roots-apart : RootsApart
roots-apart all one other surface top-one top-other under-one under-other = roots-same levels levels all one other surface top-one top-other under-one under-other

-- ---- links by their numbers

-- a link that is found has its own number alone
pub found-number : (p : Link → Bool) (ls : List Link) (l : Link) → AreNumbered ls → find p ls ≡ Some l → find (λ (k : Link). k.number == l.number) ls ≡ Some l
found-number p [] l apart e = absurd (cc)
found-number p (x ∷ xs) l apart e = at (p x) e (found-number p xs l apart.1)
  where
    behind : (b : Bool) → (x.number == l.number) ≡ b → find (λ (k : Link). k.number == l.number) xs ≡ Some l → cond b (Some x) (find (λ (k : Link). k.number == l.number) xs) ≡ Some l
    behind true same found =
        absurd (none-some l (sym (none-found (λ (k : Link). k.number == l.number) xs (ap (λ n. list_any (λ (k : Link). k.number == n) xs) (sym (eqb-true x.number l.number same)) ∙ apart.0)) ∙ found))
    behind false same found = found

    at : (b : Bool) → cond b (Some x) (find p xs) ≡ Some l → (find p xs ≡ Some l → find (λ (k : Link). k.number == l.number) xs ≡ Some l)
        → find (λ (k : Link). k.number == l.number) (x ∷ xs) ≡ Some l
    at true e next =
        let it : x ≡ l = cc in
        ap (λ b. cond b (Some x) (find (λ (k : Link). k.number == l.number) xs)) (eq-eqb x.number l.number (ap (λ (k : Link). k.number) it)) ∙ ap (λ (k : Link). Some k) it
    at false e next = behind (x.number == l.number) refl (next e)

-- the link of a child lives, and is the child's
pub record IsLinkOf (child : ℕ) (link : Link) (all : Surfaces) : Type 0 where
  pub live : IsLive link.number link all
  pub is : link.child ≡ child

pub link-lives : (all : Surfaces) (child : ℕ) (link : Link) → AreNumbered all.links → link_of child all ≡ Some link → IsLinkOf child link all
link-lives all child link apart e =
    let parts = live-parts link.has_ended (link.child == child) (found-passes (is_live_of child) all.links link e) in
    record {
      live = record { here = found-number (is_live_of child) all.links link apart e; lives = parts.0 };
      is = eqb-true link.child child parts.1;
    }

pub no-child-is-top : NoChildIsTop
no-child-is-top all apart surface none =
    by-link (link_of surface all ≡ None) surface all (λ e. e)
    (λ a e. let it = link-lives all surface a apart e in absurd (none a.number a it.live it.is))

-- ---- the root of a surface

lower : (s p n : ℕ) → s ≡ suc p → s ≤ suc n → p ≤ n
lower s p n e le = omega arith

never-low : {X : Type 0} (s p : ℕ) → s ≡ suc p → s ≤ 0 → X
never-low s p e le = absurd (omega arith)

abbrev RootWithin : Surfaces → ℕ → ℕ → Type 0
RootWithin all n s = (root : ℕ) × (link_of root all ≡ None) × (descends_from n all root s ≡ true)

module _ (all : Surfaces) (trees : AreTrees all) (apart : AreNumbered all.links) where
  deeper : (s : ℕ) (a : Link) → link_of s all ≡ Some a → trees.depth s ≡ suc (trees.depth a.parent)
  deeper s a e = let it = link-lives all s a apart e in ap trees.depth (sym it.is) ∙ trees.below a.number a it.live

  root-within : (n s : ℕ) → trees.depth s ≤ n → RootWithin all n s
  root-within zero s low =
      by-link (RootWithin all zero s) s all
      (λ none. (s, none, descends-itself zero all s))
      (λ a e. never-low (trees.depth s) (trees.depth a.parent) (deeper s a e) low)
  root-within (suc n) s low =
      by-link (RootWithin all (suc n) s) s all
      (λ none. (s, none, descends-itself (suc n) all s))
      (λ a e.
      let r = root-within n a.parent (lower (trees.depth s) (trees.depth a.parent) n (deeper s a e) low) in
      (r.0, r.1, by-parent n all r.0 s a e r.2))

pub has-root : HasRoot
has-root all trees apart surface =
    let r = root-within all trees apart 16 surface (trees.shallow surface) in
    (r.0, record { top = r.1; under = within 16 17 all r.0 surface (omega arith) r.2 })
