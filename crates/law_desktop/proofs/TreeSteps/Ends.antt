-- The end of a link, and that of a surface with its links, keep the surfaces that don't descend from the child, or from the surface.
use Rattle.std.proofs.Common.{◌≡◌, ℕ, ◌==◌, ◌&&◌, Bool, true, false, cond, Some, None, List, [], ◌∷◌, refl, ap, sym, subst, ◌∙◌}
use Rattle.std.specs.Prelude.{filter, find, fold, not}
use Rattle.std.specs.List.{list_any}
use Rattle.std.proofs.lemmas.Bool.{and_right, eqb-true, false_from_ne_true, or_from}
use Rattle.std.proofs.lemmas.Option.{same_Some}
use Rattle.wl_surface.specs.State.{apply}
use Rattle.wl_surface.specs.Surfaces.{Link, Surfaces, history_in, link_at, without_surface}
use Rattle.wl_surface.specs.Trees.{descends_from, ended_in, ending, levels, with_link}
use Rattle.wl_surface.specs.Hanging.{AreNumbered, kids_of}
use Rattle.wl_surface.specs.TreeLaws.{AreOnceLinked, applied_where, ended_with}
use Rattle.wl_surface.proofs.Changing.{KeepsLink, keeps-where}
use Rattle.wl_surface.proofs.Coming.{history-applied, history-without}
use Rattle.wl_surface.proofs.TreesEnding.{end_one, ends-links, touches}
use Rattle.wl_surface.proofs.Linking.{keeps-ending}
use Rattle.wl_surface.proofs.Placing.{numbered}
use Rattle.law_desktop.proofs.Soundness.LinkedDepths.{descends-itself}
use Rattle.law_desktop.specs.TreeStepsLaws.{KeepsOthers}
use Rattle.law_desktop.specs.TreeRequests.{DestructionKeepsOthers, EndKeepsOthers}
use Rattle.law_desktop.proofs.TreeSteps.Commits.{applied-keeps, kept-where}
use Rattle.law_desktop.proofs.TreeSteps.Fewer.{gone-kids, had-parents, is-other, kept-kid, kid-link, once-kept}
use Rattle.law_desktop.proofs.TreeSteps.Staying.{child-under}
use Rattle.law_desktop.proofs.Truth.{differ, or-left, or-right}

-- ---- one link ends

abbrev ending_at : ℕ → Link → Link
ending_at number l = cond (l.number == number) (ending l) l

keeps-one : (number : ℕ) → KeepsLink (ending_at number)
keeps-one number = keeps-where (λ l. l.number == number) ending keeps-ending

-- the links of a number that live
abbrev lives_at : ℕ → Link → Bool
lives_at number l = not l.has_ended && l.number == number

filter-none : (number : ℕ) (ls : List Link) → list_any (λ (k : Link). k.number == number) ls ≡ false → filter (lives_at number) ls ≡ []
filter-none number [] e = refl
filter-none number (x ∷ xs) e =
    ap (λ b. cond b (x ∷ filter (lives_at number) xs) (filter (lives_at number) xs))
    (and_right (not x.has_ended) (x.number == number) (or-left (x.number == number) (list_any (λ (k : Link). k.number == number) xs) e))
    ∙ filter-none number xs (or-right (x.number == number) (list_any (λ (k : Link). k.number == number) xs) e)

-- a number has one link
filter-one : (number : ℕ) (ls : List Link) (l : Link) → AreNumbered ls → find (λ (k : Link). k.number == number) ls ≡ Some l
    → filter (lives_at number) ls ≡ cond (not l.has_ended) (l ∷ []) []
filter-one number [] l apart e = absurd (cc)
filter-one number (x ∷ xs) l apart e = at (x.number == number) refl e (filter-one number xs l apart.1)
  where
    here : x.number ≡ number → filter (lives_at number) xs ≡ []
    here same = filter-none number xs (ap (λ n. list_any (λ (k : Link). k.number == n) xs) (sym same) ∙ apart.0)

    both : (a : Bool) → (a && true) ≡ a
    both true = refl
    both false = refl

    one : (a : Bool) (rest : List Link) → rest ≡ [] → cond a (x ∷ rest) rest ≡ cond a (x ∷ []) []
    one a rest e = ap (λ (ys : List Link). cond a (x ∷ ys) ys) e

    at : (b : Bool) → (x.number == number) ≡ b → cond b (Some x) (find (λ (k : Link). k.number == number) xs) ≡ Some l
        → (find (λ (k : Link). k.number == number) xs ≡ Some l → filter (lives_at number) xs ≡ cond (not l.has_ended) (l ∷ []) [])
        → cond (not x.has_ended && x.number == number) (x ∷ filter (lives_at number) xs) (filter (lives_at number) xs) ≡ cond (not l.has_ended) (l ∷ []) []
    at true f e next =
        ap (λ b. cond (not x.has_ended && b) (x ∷ filter (lives_at number) xs) (filter (lives_at number) xs)) f
        ∙ (ap (λ b. cond b (x ∷ filter (lives_at number) xs) (filter (lives_at number) xs)) (both (not x.has_ended))
        ∙ (one (not x.has_ended) (filter (lives_at number) xs) (here (eqb-true x.number number f))
        ∙ ap (λ (k : Link). cond (not k.has_ended) (k ∷ []) []) (same_Some x l e)))
    at false f e next = ap (λ b. cond b (x ∷ filter (lives_at number) xs) (filter (lives_at number) xs)) (and_right (not x.has_ended) (x.number == number) f) ∙ next e

module _ (all : Surfaces) (once : AreOnceLinked all.links) (number : ℕ) (link : Link) (here : link_at number all ≡ Some link) where
  -- the links of the others live on
  ending-kid : (n child : ℕ) → kids_of all n ≡ Some child → descends_from levels all link.child child ≡ false → kids_of (with_link link.number ending all) n ≡ Some child
  ending-kid n child is none =
      let kid = kid-link (link_at n all) child is in
      kept-kid (ending_at link.number) (keeps-one link.number) all n child kid.0 is kid.1
      (stays kid.0 (kid.0.number == link.number) (false_from_ne_true (kid.0.number == link.number) (never kid.0 kid.1 kid.3)))
    where
      stays : (k : Link) (b : Bool) → b ≡ false → cond b (ending k) k ≡ k
      stays k true e = absurd (differ (sym e))
      stays k false e = refl

      never : (k : Link) → link_at n all ≡ Some k → k.child ≡ child → (k.number == link.number) ≡ true → ⊥
      never k at-k of-k e =
          let same : n ≡ number = sym (numbered n all.links k at-k) ∙ (eqb-true k.number link.number e ∙ numbered number all.links link here) in
          let it : link ≡ k = same_Some link k (sym here ∙ (ap (λ m. link_at m all) (sym same) ∙ at-k)) in
          differ (sym none ∙ (ap (descends_from levels all link.child) (sym of-k ∙ ap (λ (l : Link). l.child) (sym it)) ∙ descends-itself levels all link.child))

  ended-keeps : KeepsOthers link.child all (ended_in all link)
  ended-keeps =
      applied-keeps link.child all (with_link link.number ending all) (once-kept (ending_at link.number) (keeps-one link.number) all.links once)
      (had-parents (ending_at link.number) (keeps-one link.number) all once)
      (record {
        histories = λ s none. refl;
        kids = λ n child named is none. ending-kid n child is none;
        gone = λ n named e. gone-kids (ending_at link.number) (keeps-one link.number) all n e;
      })

pub end-keeps-others : EndKeepsOthers
end-keeps-others all once apart number link here = (
  subst (λ (ls : List Link). KeepsOthers link.child all (fold ended_in all ls)) (sym (filter-one number all.links link apart here)) (at (not link.has_ended)),
  ended-keeps all once number link here,
)
  where
    at : (b : Bool) → KeepsOthers link.child all (fold ended_in all (cond b (link ∷ []) []))
    at true = ended-keeps all once number link here
    at false = record { histories = λ s none. refl; kids = λ n child named is none. is; gone = λ n named is. is }

-- ---- a surface goes with its links

module _ (all : Surfaces) (once : AreOnceLinked all.links) (id : ℕ) where
  keeps-ends : KeepsLink (end_one id)
  keeps-ends = keeps-where (touches id) ending keeps-ending

  abbrev left : Surfaces
  left = record (applied_where (descends_from levels all id) all) { links = ended_with id all.links }

  left-history : (s : ℕ) → descends_from levels all id s ≡ false → history_in s (without_surface id left) ≡ history_in s all
  left-history s none =
      history-without s id left
      ∙ (ap (λ b. cond b None (history_in s left)) (is-other all id s none)
      ∙ (history-applied s (descends_from levels all id) all ∙ kept-where apply (descends_from levels all id s) (history_in s all) none))

  left-kid : (n child : ℕ) → kids_of all n ≡ Some child → descends_from levels all id child ≡ false → kids_of (without_surface id left) n ≡ Some child
  left-kid n child is none =
      let kid = kid-link (link_at n all) child is in
      kept-kid (end_one id) keeps-ends all n child kid.0 is kid.1 (ap (λ b. cond b (ending kid.0) kid.0) (apart kid.0 kid.1 kid.2 kid.3))
    where
      apart : (k : Link) → link_at n all ≡ Some k → k.has_ended ≡ false → k.child ≡ child → touches id k ≡ false
      apart k at-k lives of-k =
          let other = ap (descends_from levels all id) of-k ∙ none in
          or_from (k.child == id) (k.parent == id) (is-other all id k.child other)
          (false_from_ne_true (k.parent == id) (λ e. differ (sym other
          ∙ child-under all n k 16 id id once (record { here = at-k; lives = lives }) (eqb-true k.parent id e) (descends-itself 16 all id))))

  left-keeps : KeepsOthers id all (without_surface id left)
  left-keeps = record {
    histories = left-history;
    kids = λ n child named is none. left-kid n child is none;
    gone = λ n named e. gone-kids (end_one id) keeps-ends all n e;
  }

pub destruction-keeps-others : DestructionKeepsOthers
destruction-keeps-others all once apart id = subst (λ (x : Surfaces). KeepsOthers id all x) (sym (ends-links all id once apart)) (left-keeps all once id)
