-- The toplevel that is found by numbers is the one that is found among the windows.
use Rattle.std.proofs.Common.{◌≡◌, ℕ, Bool, true, false, cond, Option, Some, None, List, [], ◌∷◌, refl, ap, sym, subst, ◌∙◌}
use Rattle.std.specs.Prelude.{◌==◌, ◌&&◌, find}
use Rattle.std.specs.Option.{option_and_then, option_map, option_or}
use Rattle.std.proofs.lemmas.Bool.{and_from, eqb-true}
use Rattle.std.proofs.lemmas.Option.{same_Some}
use Rattle.spec_desktop.specs.Objects.{ById}
use Rattle.spec_desktop.specs.Windows.{Owner, StackedPopup, Window}
use Rattle.spec_desktop.specs.Stacked.{all_windows}
use Rattle.law_desktop.proofs.Marks.Stacks.{equal-numbers}
use Rattle.law_desktop.proofs.Truth.{and-left, and-right, truth}
use Rattle.wl_scene.specs.StackedAgreement.{AreNumberedOnce}
use Rattle.law_desktop.specs.TreeMarksLaws.{has_root}
use Rattle.law_desktop.specs.StackedWith.{popup_of}
use Rattle.law_windows.specs.Runs.Lookup.{toplevel_by_parent, toplevel_in}
use Rattle.law_windows.specs.Runs.Numbers.{AreKeptFor, FindsByNumbers, IsKeptFor, IsNumberOf, IsPopupBy, kept_by_parent, toplevel_kept}

-- ---- options

module _ (numbers : ById ℕ) where
  or-alike : (a b x y : Option ℕ) → IsNumberOf numbers a b → IsNumberOf numbers x y → IsNumberOf numbers (option_or a x) (option_or b y)
  or-alike None None x y e f = f
  or-alike (Some n) (Some i) x y e f = e
  or-alike None (Some i) x y e f = absurd e
  or-alike (Some n) None x y e f = absurd e

  then-alike : (g h : ℕ → Option ℕ) (a b : Option ℕ) → IsNumberOf numbers a b → ((n i : ℕ) → numbers i ≡ Some n → IsNumberOf numbers (g n) (h i))
      → IsNumberOf numbers (option_and_then g a) (option_and_then h b)
  then-alike g h None None e f = tt
  then-alike g h (Some n) (Some i) e f = f n i e
  then-alike g h None (Some i) e f = absurd e
  then-alike g h (Some n) None e f = absurd e

-- ---- entries

module _ (K : Type 0) (owner : K → Owner) (numbers : ℕ → ById ℕ) (c : ℕ) (once : AreNumberedOnce (numbers c)) where
  -- an entry is of the root where its window is
  abbrev has : ℕ → K → Bool
  has number k = ((owner k).client == c) && ((owner k).root == number)

  same-root : (root number : ℕ) (k : K) (w : Window) → IsKeptFor numbers (owner k) w → numbers c root ≡ Some number → has number k ≡ has_root c root w
  same-root root number k w is named = truth (has number k) (has_root c root w) kept shown
    where
      kept : has number k ≡ true → has_root c root w ≡ true
      kept e =
          let client : (owner k).client ≡ c = eqb-true (owner k).client c (and-left ((owner k).client == c) ((owner k).root == number) e) in
          let its : (owner k).root ≡ number = eqb-true (owner k).root number (and-right ((owner k).client == c) ((owner k).root == number) e) in
          and_from (c == w.owner.client) (root == w.owner.root) (equal-numbers c w.owner.client (sym client ∙ is.client))
          (equal-numbers root w.owner.root
          (once root w.owner.root number named (ap (λ n. numbers n w.owner.root) (sym client) ∙ (is.root ∙ ap (λ n. Some n) its))))

      shown : has_root c root w ≡ true → has number k ≡ true
      shown e =
          let client : (owner k).client ≡ c = is.client ∙ sym (eqb-true c w.owner.client (and-left (c == w.owner.client) (root == w.owner.root) e)) in
          let its : root ≡ w.owner.root = eqb-true root w.owner.root (and-right (c == w.owner.client) (root == w.owner.root) e) in
          and_from ((owner k).client == c) ((owner k).root == number) (equal-numbers (owner k).client c client)
          (equal-numbers (owner k).root number
          (same_Some (owner k).root number (sym is.root ∙ (ap (λ n. numbers n w.owner.root) client ∙ (ap (numbers c) (sym its) ∙ named)))))

  toplevels-alike : (root number : ℕ) → numbers c root ≡ Some number → (ks : List K) (ws : List Window) → AreKeptFor owner numbers ks ws
      → IsNumberOf (numbers c) (toplevel_kept owner c number ks) (toplevel_in c root ws)
  toplevels-alike root number named [] [] are = tt
  toplevels-alike root number named [] (w ∷ ws) are = absurd are
  toplevels-alike root number named (k ∷ ks) [] are = absurd are
  toplevels-alike root number named (k ∷ ks) (w ∷ ws) are =
      at (has number k) (has_root c root w) (same-root root number k w are.0 named) refl (toplevels-alike root number named ks ws are.1)
    where
      at : (a b : Bool) → a ≡ b → has number k ≡ a → IsNumberOf (numbers c) (toplevel_kept owner c number ks) (toplevel_in c root ws)
          → IsNumberOf (numbers c) (option_map (λ j. (owner j).toplevel) (cond a (Some k) (find (has number) ks)))
          (option_map (λ v. v.owner.toplevel) (cond b (Some w) (find (has_root c root) ws)))
      at true true same e later =
          subst (λ n. numbers n w.owner.toplevel ≡ Some (owner k).toplevel)
          (eqb-true (owner k).client c (and-left ((owner k).client == c) ((owner k).root == number) e)) are.0.toplevel
      at false false same e later = later
      at true false same e later = absurd (cc)
      at false true same e later = absurd (cc)

  parents-alike : (root number : ℕ) → numbers c root ≡ Some number → (ks : List K) (ws : List Window) → AreKeptFor owner numbers ks ws
      → (popup : Option (Option ℕ)) (o : Option StackedPopup) → IsPopupBy (numbers c) popup o
      → IsNumberOf (numbers c) (kept_by_parent owner c number popup ks) (toplevel_by_parent c root o ws)
  parents-alike root number named ks ws are None None is = named
  parents-alike root number named ks ws are (Some parent) (Some p) is =
      then-alike (numbers c) (λ surface. toplevel_kept owner c surface ks) (λ surface. toplevel_in c surface ws) parent p.parent is
      (λ n i e. toplevels-alike i n e ks ws are)
  parents-alike root number named ks ws are None (Some p) is = absurd is
  parents-alike root number named ks ws are (Some parent) None is = absurd is

pub finds-by-numbers : (K : Type 0) → FindsByNumbers K
finds-by-numbers K owner numbers ks c root number popup d are once named is =
    or-alike (numbers c) (toplevel_kept owner c number ks) (toplevel_in c root (all_windows d)) (kept_by_parent owner c number popup ks)
    (toplevel_by_parent c root (popup_of c root d) (all_windows d)) (toplevels-alike K owner numbers c once root number named ks (all_windows d) are)
    (parents-alike K owner numbers c once root number named ks (all_windows d) are popup (popup_of c root d) is)
