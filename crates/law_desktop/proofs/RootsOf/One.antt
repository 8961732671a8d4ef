-- What touches one tree changes the windows that are stacked with the toplevel of this tree, or none.
use Rattle.std.proofs.Common.{◌≡◌, ℕ, Bool, true, false, cond, Option, Some, None, List, [], ◌∷◌, refl, ap, sym, subst, ◌∙◌, inl, inr}
use Rattle.std.specs.Prelude.{◌==◌, ◌||◌, filter, not}
use Rattle.std.specs.List.{All, list_any}
use Rattle.std.proofs.lemmas.Bool.{eqb-true, false_from_ne_true}
use Rattle.spec_desktop.specs.Stacking.{is_of, with_mapped, without_surface_of}
use Rattle.spec_desktop.specs.Windows.{StackedPopup}
use Rattle.spec_desktop.specs.Desktop.{Desktop}
use Rattle.law_desktop.specs.Soundness.{IsSound, has_surface}
use Rattle.law_desktop.proofs.Marks.Stacks.{equal-numbers}
use Rattle.law_desktop.specs.StackedWith.{ChangesWith, IsStackedAs, IsStackedWith, popup_of}
use Rattle.law_desktop.specs.Toplevel.{AreInTurn, ChangesToplevel, SameRoot, windows_with}
use Rattle.law_desktop.proofs.RootsOf.Change.{all-painted, one-in, one-out, same-stand}
use Rattle.law_desktop.proofs.RootsOf.Kept.{popups_in}
use Rattle.law_desktop.proofs.RootsOf.Same.{IsOfTree, apart-all, of-trees, same-root, turn-in}
use Rattle.law_desktop.proofs.RootsOf.Stacked.{all-kept, found-any, others-kept}
use Rattle.law_desktop.proofs.RootsOf.Staying.{each-all}
use Rattle.law_desktop.proofs.RootsOf.Touched.{IsTopOrPopup, Touches, is_other}
use Rattle.law_desktop.proofs.RootsOf.Turns.{AreApart, all-from, popup_surfaces}
use Rattle.law_desktop.proofs.Truth.{differ}
use Rattle.law_desktop.proofs.Lists.Each.{each-map}
use Rattle.law_desktop.proofs.Lists.Tests.{none-any}

-- a popup of another surface is among the others
any-other : (x root : ℕ) → (x == root) ≡ false → (ps : List StackedPopup) → list_any (has_surface x) ps ≡ list_any (has_surface x) (filter (is_other root) ps)
any-other x root out [] = refl
any-other x root out (p ∷ ps) = at (p.surface == root) refl (any-other x root out ps)
  where
    at : (b : Bool) → (p.surface == root) ≡ b → list_any (has_surface x) ps ≡ list_any (has_surface x) (filter (is_other root) ps)
        → (has_surface x p || list_any (has_surface x) ps) ≡ list_any (has_surface x) (cond (not b) (p ∷ filter (is_other root) ps) (filter (is_other root) ps))
    at true e rest =
        ap (λ b. b || list_any (has_surface x) ps)
        (false_from_ne_true (p.surface == x) (λ f. differ (sym out ∙ equal-numbers x root (sym (eqb-true p.surface x f) ∙ eqb-true p.surface root e)))) ∙ rest
    at false e rest = ap (λ b. has_surface x p || b) rest

-- a surface that another tree is stacked with has no popup
toplevel-none : (c root t : ℕ) (d : Desktop) → IsSound d → (o : Option StackedPopup) → popup_of c root d ≡ o → IsStackedAs c root d o (Some t) → list_any (has_surface t) (popups_in d c) ≡ false
toplevel-none c root t d sound None found is = ap (λ n. list_any (has_surface n) (popups_in d c)) is ∙ none-any (has_surface root) (popups_in d c) found
toplevel-none c root t d sound (Some p) found held = sound.levels c t (found-any (is_of c t) d.standing held.standing held.stands)

module _ (c root : ℕ) (d e : Desktop) (had : IsSound d) (has : IsSound e) (touches : Touches c root d e) where
  same-members : (x : ℕ) → (x == root) ≡ false → list_any (has_surface x) (popups_in e c) ≡ list_any (has_surface x) (popups_in d c)
  same-members x out =
      any-other x root out (popups_in e c)
      ∙ (ap (list_any (has_surface x)) touches.popups ∙ sym (any-other x root out (popups_in d c)))

  module _ (t : ℕ) (is : IsStackedWith c root d (Some t)) (stays : (t == root) ≡ false → e.standing ≡ d.standing) where
    apart : AreApart (t ∷ popup_surfaces (popups_in d c))
    apart = apart-all c t d had (toplevel-none c root t d had (popup_of c root d) refl is)

    turn : AreInTurn (t ∷ popup_surfaces (popups_in d c)) (windows_with c t d)
    turn = turn-in c t d (popup_surfaces (popups_in d c)) (all-from (popup_surfaces (popups_in d c))) apart

    turn-now : AreInTurn (t ∷ popup_surfaces (popups_in d c)) (windows_with c t e)
    turn-now = turn-in c t e (popup_surfaces (popups_in d c)) touches.order apart

    still : (x : ℕ) → (x == root) ≡ false → IsTopOrPopup t (popups_in d c) x → IsTopOrPopup t (popups_in e c) x
    still x out (inl own) = inl own
    still x out (inr there) = inr (same-members x out ∙ there)

    before : (x : ℕ) → (x == root) ≡ false → IsTopOrPopup t (popups_in e c) x → IsTopOrPopup t (popups_in d c) x
    before x out (inl own) = inl own
    before x out (inr there) = inr (sym (same-members x out) ∙ there)

    same : All (λ w. All (SameRoot w) (windows_with c t d)) (windows_with c t e)
    same =
        each-all (λ w. All (SameRoot w) (windows_with c t d)) (windows_with c t e)
        (each-map (IsOfTree c root e d) (λ w. All (SameRoot w) (windows_with c t d))
        (λ w of-w. each-all (SameRoot w) (windows_with c t d)
        (each-map (IsOfTree c root d e) (SameRoot w) (λ v of-v. same-root c root d e had has w v of-w of-v) (windows_with c t d)
        (of-trees c t root d e had has still stays (λ x out here there owner place. sym ((touches.trees x here out).windows owner place)))))
        (windows_with c t e)
        (of-trees c t root e d has had before (λ out. sym (stays out)) (λ x out here there owner place. (touches.trees x there out).windows owner place)))

    pub same-changes : e.standing ≡ d.standing → ChangesToplevel c t d e
    same-changes stack = same-stand c t d e had has (others-kept c root d had e touches t is) (t ∷ popup_surfaces (popups_in d c)) turn turn-now same stack

    pub out-changes : e.standing ≡ without_surface_of c t d.standing → ChangesToplevel c t d e
    out-changes stack = one-out c t d e had has (others-kept c root d had e touches t is) (t ∷ popup_surfaces (popups_in d c)) turn turn-now same stack

    pub in-changes : (mappings : ℕ) → e.standing ≡ with_mapped mappings c t d.standing → ChangesToplevel c t d e
    in-changes mappings stack =
        one-in c t d e had has (others-kept c root d had e touches t is) (t ∷ popup_surfaces (popups_in d c)) turn turn-now same mappings stack

  -- the same toplevels stand
  pub same-standing : e.standing ≡ d.standing → (o : Option ℕ) → IsStackedWith c root d o → ChangesWith o c d e
  same-standing stack None is = all-painted d e had stack (all-kept c root d had e touches is)
  same-standing stack (Some t) is = same-changes t is (λ out. stack) stack

  -- where it is no popup, the tree is stacked with its own toplevel
  no-popup : (o : Option ℕ) (p : Option StackedPopup) → p ≡ None → IsStackedAs c root d p o → o ≡ Some root
  no-popup None None e is = absurd is
  no-popup (Some t) None e is = ap (λ n. Some n) is
  no-popup o (Some p) e is = absurd (cc)

  module _ (none : popup_of c root d ≡ None) where
    its-own : IsStackedWith c root d (Some root)
    its-own = subst (λ (p : Option StackedPopup). IsStackedAs c root d p (Some root)) (sym none) refl

    own-stays : (root == root) ≡ false → e.standing ≡ d.standing
    own-stays out = absurd (differ (sym out ∙ equal-numbers root root refl))

    -- the toplevel of the root is taken out, if it stands
    pub taken-out : e.standing ≡ without_surface_of c root d.standing → (o : Option ℕ) → IsStackedWith c root d o → ChangesWith o c d e
    taken-out stack o is =
        subst (λ o. ChangesWith o c d e) (sym (no-popup o (popup_of c root d) none is)) (out-changes root its-own own-stays stack)

    -- it is put on top
    pub put-on-top : (mappings : ℕ) → e.standing ≡ with_mapped mappings c root d.standing → (o : Option ℕ) → IsStackedWith c root d o → ChangesWith o c d e
    put-on-top mappings stack o is =
        subst (λ o. ChangesWith o c d e) (sym (no-popup o (popup_of c root d) none is)) (in-changes root its-own own-stays mappings stack)
