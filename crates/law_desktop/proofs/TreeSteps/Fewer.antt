-- What descends from a surface once links are others: no more than before, where no link is new.
use Rattle.std.proofs.Common.{◌≡◌, ℕ, zero, suc, ◌≤◌, ◌⊎◌, inl, inr, ◌==◌, Bool, true, false, cond, Option, Some, None, List, [], ◌∷◌, map, refl, ap, sym, ◌∙◌}
use Rattle.std.specs.Prelude.{find, not}
use Rattle.std.specs.List.{list_any}
use Rattle.std.specs.Option.{option_map}
use Rattle.std.proofs.lemmas.Bool.{and_from, eqb-true, false_from_ne_true, not_from_false}
use Rattle.std.proofs.lemmas.Option.{none-some, same_Some}
use Rattle.wl_surface.specs.Surfaces.{Link, Surfaces, link_at}
use Rattle.wl_surface.specs.Trees.{descends_from, levels, link_of}
use Rattle.wl_surface.specs.Hanging.{kid_of, kids_of}
use Rattle.wl_surface.specs.TreeLaws.{AreOnceLinked, is_live_of}
use Rattle.wl_surface.proofs.Changing.{KeepsLink, at-each, none-live}
use Rattle.wl_surface.proofs.TreesEnding.{live-parts}
use Rattle.wl_surface.proofs.Linking.{none-found}
use Rattle.law_desktop.proofs.Soundness.LinkedDepths.{by-link}
use Rattle.law_desktop.proofs.TreeSteps.Descents.{at-top, by-parent, either-way, is-top, at-zero, within}
use Rattle.law_desktop.proofs.Truth.{differ}

-- a surface that doesn't descend from another is another
pub is-other : (all : Surfaces) (id surface : ℕ) → descends_from levels all id surface ≡ false → (surface == id) ≡ false
is-other all id surface none = false_from_ne_true (surface == id) (λ same. differ (sym none ∙ at-top levels all id surface (eqb-true surface id same)))

-- by fewer levels no more descends
pub by-fewer : (m k : ℕ) (all : Surfaces) (top s : ℕ) → m ≤ k → descends_from k all top s ≡ false → descends_from m all top s ≡ false
by-fewer m k all top s le none = false_from_ne_true (descends_from m all top s) (λ under. differ (sym none ∙ within m k all top s le under))

-- ---- no link is new

-- the parent that a surface has it had before
abbrev pub HadParents : Surfaces → Surfaces → Type 0
HadParents all new = (s : ℕ) (l : Link) → link_of s new ≡ Some l → (k : Link) × (link_of s all ≡ Some k) × (k.parent ≡ l.parent)

pub had-descended : (all new : Surfaces) → HadParents all new → (n top s : ℕ) → descends_from n new top s ≡ true → descends_from n all top s ≡ true
had-descended all new had zero top s under = at-top zero all top s (at-zero new top s under)
had-descended all new had (suc n) top s under =
    by-link (descends_from (suc n) all top s ≡ true) s new
    (λ none. at-top (suc n) all top s (is-top (suc n) new top s none under))
    (λ l e. at l (had s l e) (either-way n new top s l e under) (had-descended all new had n top l.parent))
  where
    at : (l : Link) → (k : Link) × (link_of s all ≡ Some k) × (k.parent ≡ l.parent) → ((s == top) ≡ true) ⊎ (descends_from n new top l.parent ≡ true)
        → (descends_from n new top l.parent ≡ true → descends_from n all top l.parent ≡ true) → descends_from (suc n) all top s ≡ true
    at l was (inl same) next = at-top (suc n) all top s (eqb-true s top same)
    at l was (inr higher) next = by-parent n all top s was.0 was.1 (ap (descends_from n all top) was.2 ∙ next higher)

pub none-descends : (all new : Surfaces) → HadParents all new → (n top s : ℕ) → descends_from n all top s ≡ false → descends_from n new top s ≡ false
none-descends all new had n top s none = false_from_ne_true (descends_from n new top s) (λ under. differ (sym none ∙ had-descended all new had n top s under))

-- ---- each link is made of one

module _ (g : Link → Link) (keeps : KeepsLink g) where
  lived : (l : Link) (b : Bool) → l.has_ended ≡ b → (g l).has_ended ≡ false → l.has_ended ≡ false
  lived l false e lives = e
  lived l true e lives = absurd (differ (sym lives ∙ keeps.ended l e))

  -- a link that lives was that of its child
  abbrev Was : ℕ → List Link → Link → Type 0
  Was c ls l = (k : Link) × (find (is_live_of c) ls ≡ Some k) × (g k ≡ l)

  find-was : (c : ℕ) (ls : List Link) (l : Link) → AreOnceLinked ls → find (is_live_of c) (map g ls) ≡ Some l → Was c ls l
  find-was c [] l once e = absurd (none-some l e)
  find-was c (x ∷ xs) l once e = at (is_live_of c (g x)) refl e (find-was c xs l once.1)
    where
      lived-here : is_live_of c (g x) ≡ true → is_live_of c x ≡ true
      lived-here f =
          let parts = live-parts (g x).has_ended ((g x).child == c) f in
          and_from (not x.has_ended) (x.child == c) (not_from_false x.has_ended (lived x x.has_ended refl parts.0)) (ap (λ n. n == c) (sym (keeps.child x)) ∙ parts.1)

      behind : (k : Link) (b : Bool) → is_live_of c x ≡ b → find (is_live_of c) xs ≡ Some k → cond b (Some x) (find (is_live_of c) xs) ≡ Some k
      behind k false h found = found
      behind k true h found =
          let parts = live-parts x.has_ended (x.child == c) h in
          absurd (none-some k (sym (none-found (is_live_of c) xs (ap (λ n. list_any (is_live_of n) xs) (sym (eqb-true x.child c parts.1)) ∙ once.0 parts.0)) ∙ found))

      at : (b : Bool) → is_live_of c (g x) ≡ b → cond b (Some (g x)) (find (is_live_of c) (map g xs)) ≡ Some l
          → (find (is_live_of c) (map g xs) ≡ Some l → Was c xs l) → Was c (x ∷ xs) l
      at true f e next = (x, ap (λ b. cond b (Some x) (find (is_live_of c) xs)) (lived-here f), same_Some (g x) l e)
      at false f e next = let was = next e in (was.0, behind was.0 (is_live_of c x) refl was.1, was.2)

  pub once-kept : (ls : List Link) → AreOnceLinked ls → AreOnceLinked (map g ls)
  once-kept [] once = tt
  once-kept (x ∷ xs) once = (
    λ lives. ap (λ c. list_any (is_live_of c) (map g xs)) (keeps.child x) ∙ none-live g keeps x.child xs (once.0 (lived x x.has_ended refl lives)),
    once-kept xs once.1,
  )

  pub had-parents : (all : Surfaces) → AreOnceLinked all.links → HadParents all (record all { links = map g all.links })
  had-parents all once s l e = let was = find-was s all.links l once e in (was.0, was.1, sym (keeps.parent was.0) ∙ ap (λ (k : Link). k.parent) was.2)

  -- ---- their children

  gone-kid : (o : Option Link) → kid_of o ≡ None → kid_of (option_map g o) ≡ None
  gone-kid None e = refl
  gone-kid (Some k) e = at k.has_ended refl (none-first k.has_ended e)
    where
      none-first : (b : Bool) → cond b None (Some k.child) ≡ None → b ≡ true
      none-first true e = refl
      none-first false e = absurd (none-some k.child (sym e))

      at : (b : Bool) → k.has_ended ≡ b → k.has_ended ≡ true → kid_of (Some (g k)) ≡ None
      at b e f = ap (λ b. cond b None (Some (g k).child)) (keeps.ended k f)

  -- a link that has no child gets none
  pub gone-kids : (all : Surfaces) (number : ℕ) → kids_of all number ≡ None → kids_of (record all { links = map g all.links }) number ≡ None
  gone-kids all number e = ap kid_of (at-each g keeps number all.links) ∙ gone-kid (link_at number all) e

  -- a link that stays keeps its child
  pub kept-kid : (all : Surfaces) (number child : ℕ) (k : Link) → kids_of all number ≡ Some child → link_at number all ≡ Some k → g k ≡ k
      → kids_of (record all { links = map g all.links }) number ≡ Some child
  kept-kid all number child k is here same =
      ap kid_of (at-each g keeps number all.links) ∙ (ap (λ o. kid_of (option_map g o)) here ∙ (ap (λ (x : Link). kid_of (Some x)) same ∙ (sym (ap kid_of here) ∙ is)))

-- the link that has a child lives, and is the child's
abbrev pub IsKidLink : Option Link → ℕ → Type 0
IsKidLink o child = (k : Link) × (o ≡ Some k) × (k.has_ended ≡ false) × (k.child ≡ child)

pub kid-link : (o : Option Link) (child : ℕ) → kid_of o ≡ Some child → IsKidLink o child
kid-link None child e = absurd (none-some child e)
kid-link (Some k) child e = at k.has_ended refl e
  where
    at : (b : Bool) → k.has_ended ≡ b → cond b None (Some k.child) ≡ Some child → IsKidLink (Some k) child
    at true f e = absurd (none-some child e)
    at false f e = (k, refl, f, same_Some k.child child e)
