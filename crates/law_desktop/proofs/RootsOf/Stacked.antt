-- What touches one tree keeps all toplevels but the one that it is stacked with.
use Rattle.std.proofs.Common.{◌≡◌, ℕ, Bool, true, false, cond, Option, Some, None, List, [], ◌∷◌, refl, ap, sym, subst, ◌∙◌}
use Rattle.std.specs.Prelude.{◌==◌, ◌||◌, find}
use Rattle.std.specs.List.{list_any}
use Rattle.std.proofs.lemmas.Bool.{eqb-false, eqb-true, false_from_ne_true}
use Rattle.spec_desktop.specs.Stacking.{Standing, is_of, root_of}
use Rattle.spec_desktop.specs.Windows.{Root, StackedPopup, roots_of}
use Rattle.spec_desktop.specs.Desktop.{Desktop, owned_in}
use Rattle.law_desktop.specs.Laws.{AreApart}
use Rattle.law_desktop.specs.Soundness.{IsSound, has_surface}
use Rattle.law_desktop.proofs.Lists.Standings.{of-client, of-it, of-surface}
use Rattle.law_desktop.specs.ToplevelRoots.{has_parent_in}
use Rattle.law_desktop.specs.StackedWith.{HoldsParent, IsStackedAs, IsStackedWith, popup_of, stacked_roots}
use Rattle.law_desktop.proofs.RootsOf.Away.{away-parent, toplevels-away}
use Rattle.law_desktop.proofs.RootsOf.Change.{OthersAreKept}
use Rattle.law_desktop.proofs.RootsOf.Kept.{ToplevelIsKept, foreign-kept, popups_in, surfaces_in}
use Rattle.law_desktop.proofs.RootsOf.Touched.{IsElsewhere, Touches, apart-kept, elsewhere-apart}
use Rattle.law_desktop.proofs.Truth.{differ}
use Rattle.law_desktop.proofs.Lists.Each.{Each, each-both, each-map}
use Rattle.law_desktop.proofs.Lists.Tests.{each-false}
use Rattle.law_desktop.proofs.Lists.Keys.{found-passes}

-- ---- what stands

pub found-any : {X : Type 0} (p : X → Bool) (xs : List X) (x : X) → find p xs ≡ Some x → list_any p xs ≡ true
found-any p [] x e = absurd (cc)
found-any p (y ∷ ys) x e = at (p y) (found-any p ys x) e
  where
    at : (b : Bool) → (find p ys ≡ Some x → list_any p ys ≡ true) → cond b (Some y) (find p ys) ≡ Some x → (b || list_any p ys) ≡ true
    at true later e = refl
    at false later e = later e

-- each that stands is found by its surface
pub all-found : (ss : List Standing) → AreApart ss → Each (λ s. find (is_of s.client s.surface) ss ≡ Some s) ss
all-found [] apart = tt
all-found (s ∷ ss) apart = (
  ap (λ b. cond b (Some s) (find (is_of s.client s.surface) ss)) (of-it s.client s.surface s refl refl),
  each-both (λ r. is_of s.client s.surface r ≡ false) (λ r. find (is_of r.client r.surface) ss ≡ Some r) (λ r. find (is_of r.client r.surface) (s ∷ ss) ≡ Some r)
      (λ r other found. ap (λ b. cond b (Some s) (find (is_of r.client r.surface) ss))
      (false_from_ne_true (is_of r.client r.surface s) (λ is. differ (sym other
      ∙ of-it s.client s.surface r (sym (of-client r.client r.surface s is)) (sym (of-surface r.client r.surface s is)))))
      ∙ found) ss (each-false (is_of s.client s.surface) ss apart.0) (all-found ss apart.1),
)

-- ---- all others

-- the roots of a toplevel of this client
abbrev roots_at : ℕ → Desktop → Standing → List Root
roots_at c d s = roots_of (surfaces_in d c) (root_of (owned_in d) s) (popups_in d c)

module _ (c root : ℕ) (d : Desktop) (sound : IsSound d) where
  level-of : (t : ℕ) (s : Standing) → find (is_of c t) d.standing ≡ Some s → list_any (has_surface s.surface) (popups_in d c) ≡ false
  level-of t s found =
      sound.levels c s.surface
      (subst (λ n. list_any (is_of c n) d.standing ≡ true) (sym (of-surface c t s (found-passes (is_of c t) d.standing s found))) (found-any (is_of c t) d.standing s found))

  -- another toplevel doesn't hold the parent
  not-held : (t : ℕ) (p : StackedPopup) → HoldsParent c t d p → (s : Standing) → find (is_of s.client s.surface) d.standing ≡ Some s → s.client ≡ c → is_of c t s ≡ false
      → has_parent_in (stacked_roots d s) p ≡ false
  not-held t p h s found is other = false_from_ne_true (has_parent_in (stacked_roots d s) p) never
    where
      its : is_of c t h.standing ≡ true
      its = found-passes (is_of c t) d.standing h.standing h.stands

      never : has_parent_in (stacked_roots d s) p ≡ true → ⊥
      never held =
          away-parent p.parent (roots_at c d h.standing) (roots_at c d s)
          (toplevels-away (surfaces_in d c) (root_of (owned_in d) h.standing) (root_of (owned_in d) s) (popups_in d c)
          (λ same. differ (sym other ∙ of-it c t s is (sym same ∙ of-surface c t h.standing its)))
          (level-of t h.standing h.stands) (level-of s.surface s (subst (λ n. find (is_of n s.surface) d.standing ≡ Some s) is found)) (sound.popups c))
          (subst (λ n. has_parent_in (roots_at n d h.standing) p ≡ true) (of-client c t h.standing its) h.holds)
          (subst (λ n. has_parent_in (roots_at n d s) p ≡ true) is held)

  elsewhere : (o : Option StackedPopup) (t : ℕ) → IsStackedAs c root d o (Some t) → (s : Standing) → find (is_of s.client s.surface) d.standing ≡ Some s → s.client ≡ c → is_of c t s ≡ false
      → IsElsewhere root d s o
  elsewhere None t is s found own other =
      false_from_ne_true (s.surface == root) (λ same. differ (sym other ∙ of-it c t s own (eqb-true s.surface root same ∙ sym is)))
  elsewhere (Some p) t h s found own other = not-held t p h s found own other

  nowhere : (o : Option StackedPopup) → IsStackedAs c root d o None → (s : Standing) → find (is_of s.client s.surface) d.standing ≡ Some s → s.client ≡ c → IsElsewhere root d s o
  nowhere None is s found own = absurd is
  nowhere (Some p) loose s found own = loose s.surface s (subst (λ n. find (is_of n s.surface) d.standing ≡ Some s) own found)

  module _ (e : Desktop) (touches : Touches c root d e) where
    -- a toplevel that stands is kept, if it is another client's, or elsewhere
    one-kept : (s : Standing) → find (is_of s.client s.surface) d.standing ≡ Some s → (s.client ≡ c → IsElsewhere root d s (popup_of c root d)) → ToplevelIsKept d e s
    one-kept s found known = at (s.client == c) refl
      where
        at : (b : Bool) → (s.client == c) ≡ b → ToplevelIsKept d e s
        at true f =
            let is : s.client ≡ c = eqb-true s.client c f in
            let there : list_any (is_of s.client s.surface) d.standing ≡ true = found-any (is_of s.client s.surface) d.standing s found in
            apart-kept root d e sound s there (subst (λ n. Touches n root d e) (sym is) touches)
            (elsewhere-apart root d sound s there (popup_of s.client root d) refl
            (subst (λ n. IsElsewhere root d s (popup_of n root d)) (sym is) (known is)))
        at false f = foreign-kept d e s (touches.others s.client (eqb-false s.client c f))

    pub others-kept : (t : ℕ) → IsStackedWith c root d (Some t) → OthersAreKept c t d e
    others-kept t is =
        each-map (λ s. find (is_of s.client s.surface) d.standing ≡ Some s) (λ s. is_of c t s ≡ false → ToplevelIsKept d e s)
        (λ s found other. one-kept s found (λ own. elsewhere (popup_of c root d) t is s found own other)) d.standing (all-found d.standing sound.apart)

    pub all-kept : IsStackedWith c root d None → Each (ToplevelIsKept d e) d.standing
    all-kept is =
        each-map (λ s. find (is_of s.client s.surface) d.standing ≡ Some s) (ToplevelIsKept d e)
        (λ s found. one-kept s found (λ own. nowhere (popup_of c root d) is s found own)) d.standing (all-found d.standing sound.apart)
