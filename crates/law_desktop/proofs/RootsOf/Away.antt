-- Which surfaces are among the roots of a toplevel: its own, and those of popups that are mapped on one of the roots. Two toplevels have none
-- in common.
use Rattle.std.proofs.Common.{◌≡◌, ℕ, Bool, true, false, cond, Option, Some, None, List, [], ◌∷◌, ◌++◌, refl, sym, subst, ◌∙◌, inl, inr}
use Rattle.std.specs.Prelude.{◌&&◌, ◌||◌, ◌⊎◌, fold}
use Rattle.std.specs.List.{list_any}
use Rattle.std.proofs.lemmas.Bool.{and_from, eqb-true, false_from_ne_true, or_from, or_left, or_right}
use Rattle.wl_surface.specs.Surfaces.{Surfaces}
use Rattle.spec_desktop.specs.Windows.{Root, StackedPopup, has_parent, root_on, roots_of, stacked, stacked_on}
use Rattle.law_desktop.specs.Soundness.{AreOnce, has_surface}
use Rattle.law_desktop.proofs.Marks.Stacks.{equal-numbers}
use Rattle.law_desktop.proofs.Soundness.Trees.{none-append}
use Rattle.law_desktop.proofs.Soundness.Windows.{In, roots_at, same_popup}
use Rattle.law_desktop.specs.ToplevelRoots.{has_parent_in, is_on_one}
use Rattle.law_desktop.proofs.RootsOf.Staying.{in-first, in_parent}
use Rattle.law_desktop.proofs.Truth.{and-left, and-right, differ, or-left, or-right}
use Rattle.law_desktop.proofs.Lists.Each.{Each, each-both}

-- ---- what a popup adds

-- nothing, or a root of its surface, where it is mapped on one of those before
abbrev pub Adds : StackedPopup → List Root → List Root → Type 0
Adds p rs [] = Unit {0}
Adds p rs (r ∷ []) = (r.surface ≡ p.surface) × (is_on_one rs p ≡ true)
Adds p rs (r ∷ q ∷ qs) = ⊥

adds-more : (p : StackedPopup) (r : Root) (rs on : List Root) → Adds p rs on → Adds p (r ∷ rs) on
adds-more p r rs [] e = tt
adds-more p r rs (q ∷ []) e = (
  e.0,
  and_from p.is_mapped (has_parent_in (r ∷ rs) p) (and-left p.is_mapped (has_parent_in rs p) e.1)
      (or_right (has_parent r.surface p) (has_parent_in rs p) (and-right p.is_mapped (has_parent_in rs p) e.1)),
)
adds-more p r rs (q ∷ s ∷ ss) e = e

pub adds-on : (all : Surfaces) (p : StackedPopup) (rs : List Root) → Adds p rs (stacked_on all p rs)
adds-on all p [] = tt
adds-on all p (r ∷ rs) = by (adds-on all p rs) (p.is_mapped && has_parent r.surface p) refl
  where
    by : Adds p rs (stacked_on all p rs) → (b : Bool) → (p.is_mapped && has_parent r.surface p) ≡ b → Adds p (r ∷ rs) (cond b (root_on all r p ∷ []) (stacked_on all p rs))
    by later true e = (
      refl,
      and_from p.is_mapped (has_parent_in (r ∷ rs) p) (and-left p.is_mapped (has_parent r.surface p) e)
          (or_left (has_parent r.surface p) (has_parent_in rs p) (and-right p.is_mapped (has_parent r.surface p) e)),
    )
    by later false e = adds-more p r rs (stacked_on all p rs) later

pub in-adds : (p : StackedPopup) (rs on : List Root) (x : ℕ) → Adds p rs on → In x on ≡ true → (p.surface ≡ x) × (is_on_one rs p ≡ true)
in-adds p rs [] x e f = absurd (differ f)
in-adds p rs (r ∷ []) x e f = (sym e.0 ∙ eqb-true r.surface x (first (roots_at x r) f), e.1)
  where
    first : (a : Bool) → (a || false) ≡ true → a ≡ true
    first true g = refl
    first false g = g
in-adds p rs (r ∷ q ∷ qs) x e f = absurd e

none-added : (p : StackedPopup) (rs on : List Root) (x : ℕ) → Adds p rs on → (p.surface ≡ x → ⊥) → In x on ≡ false
none-added p rs on x e f = false_from_ne_true (In x on) (λ g. f (in-adds p rs on x e g).0)

-- ---- a surface among the roots

in-either : (x : ℕ) (rs qs : List Root) → In x (rs ++ qs) ≡ true → (In x rs ≡ true) ⊎ (In x qs ≡ true)
in-either x [] qs e = inr e
in-either x (r ∷ rs) qs e = at (roots_at x r) e (in-either x rs qs)
  where
    at : (b : Bool) → (b || In x (rs ++ qs)) ≡ true → (In x (rs ++ qs) ≡ true → (In x rs ≡ true) ⊎ (In x qs ≡ true)) → ((b || In x rs) ≡ true) ⊎ (In x qs ≡ true)
    at true e later = inl refl
    at false e later = later e

parent-more : (parent : Option ℕ) (rs qs : List Root) → in_parent parent rs ≡ true → in_parent parent (rs ++ qs) ≡ true
parent-more None [] qs e = absurd (differ e)
parent-more None (r ∷ rs) qs e = parent-more None rs qs e
parent-more (Some x) rs qs e = in-first x rs qs e

parent-stacked : (all : Surfaces) (parent : Option ℕ) (rs : List Root) (ps : List StackedPopup) → in_parent parent rs ≡ true → in_parent parent (fold (stacked all) rs ps) ≡ true
parent-stacked all parent rs [] e = e
parent-stacked all parent rs (p ∷ ps) e = parent-stacked all parent (stacked all rs p) ps (parent-more parent rs (stacked_on all p rs) e)

-- an element of a list
abbrev pub IsIn : {X : Type 0} → X → List X → Type 0
IsIn x [] = ⊥
IsIn x (y ∷ ys) = (y ≡ x) ⊎ IsIn x ys

pub each-in : {X : Type 0} (P : X → Type 0) (x : X) (ys : List X) → IsIn x ys → Each P ys → P x
each-in P x [] here e = absurd here
each-in P x (y ∷ ys) (inl same) e = subst P same e.0
each-in P x (y ∷ ys) (inr here) e = each-in P x ys here e.1

-- a popup of these, mapped on one of the roots, is of this surface
pub record IsOnRoot (roots : List Root) (ps : List StackedPopup) (x : ℕ) : Type 0 where
  pub popup : StackedPopup
  pub own : popup.surface ≡ x
  pub mapped : is_on_one roots popup ≡ true
  pub there : list_any (has_surface x) ps ≡ true
  pub known : IsIn popup ps

-- it is a root at first, or a popup's
pub root-or-popup : (all : Surfaces) (x : ℕ) (rs : List Root) (ps : List StackedPopup) → In x (fold (stacked all) rs ps) ≡ true
    → (In x rs ≡ true) ⊎ IsOnRoot (fold (stacked all) rs ps) ps x
root-or-popup all x rs [] e = inl e
root-or-popup all x rs (p ∷ ps) e = at (root-or-popup all x (stacked all rs p) ps e)
  where
    roots : List Root
    roots = fold (stacked all) (stacked all rs p) ps

    added : (In x rs ≡ true) ⊎ (In x (stacked_on all p rs) ≡ true) → (In x rs ≡ true) ⊎ IsOnRoot (fold (stacked all) (stacked all rs p) ps) (p ∷ ps) x
    added (inl f) = inl f
    added (inr f) =
        let a = in-adds p rs (stacked_on all p rs) x (adds-on all p rs) f in
        inr
        (record {
          popup = p;
          own = a.0;
          mapped =
              and_from p.is_mapped (has_parent_in (fold (stacked all) (stacked all rs p) ps) p) (and-left p.is_mapped (has_parent_in rs p) a.1)
              (parent-stacked all p.parent rs (p ∷ ps) (and-right p.is_mapped (has_parent_in rs p) a.1));
          there = or_left (has_surface x p) (list_any (has_surface x) ps) (equal-numbers p.surface x a.0);
          known = inl refl;
        })

    at : (In x (stacked all rs p) ≡ true) ⊎ IsOnRoot (fold (stacked all) (stacked all rs p) ps) ps x → (In x rs ≡ true) ⊎ IsOnRoot (fold (stacked all) (stacked all rs p) ps) (p ∷ ps) x
    at (inl f) = added (in-either x rs (stacked_on all p rs) f)
    at (inr f) =
        inr
        (record {
          popup = f.popup;
          own = f.own;
          mapped = f.mapped;
          there = or_right (has_surface x p) (list_any (has_surface x) ps) f.there;
          known = inr f.known;
        })

-- ---- two toplevels

-- two lists of roots have no surface in common
abbrev pub AreAway : List Root → List Root → Type 0
AreAway rs qs = (x : ℕ) → In x rs ≡ true → In x qs ≡ true → ⊥

-- and so no parent
pub away-parent : (parent : Option ℕ) (rs qs : List Root) → AreAway rs qs → in_parent parent rs ≡ true → in_parent parent qs ≡ true → ⊥
away-parent None [] qs away e f = differ e
away-parent None (r ∷ rs) qs away e f = away-parent None rs qs (λ x a b. away x (or_right (roots_at x r) (In x rs) a) b) e f
away-parent (Some x) rs qs away e f = away x e f

module _ (all : Surfaces) where
  away-step : (p : StackedPopup) (rs qs : List Root) → AreAway rs qs → In p.surface rs ≡ false → In p.surface qs ≡ false → AreAway (stacked all rs p) (stacked all qs p)
  away-step p rs qs away f g x a b = at (in-either x rs (stacked_on all p rs) a) (in-either x qs (stacked_on all p qs) b)
    where
      at : (In x rs ≡ true) ⊎ (In x (stacked_on all p rs) ≡ true) → (In x qs ≡ true) ⊎ (In x (stacked_on all p qs) ≡ true) → ⊥
      at (inl u) (inl v) = away x u v
      at (inl u) (inr v) = differ (sym f ∙ subst (λ y. In y rs ≡ true) (sym (in-adds p qs (stacked_on all p qs) x (adds-on all p qs) v).0) u)
      at (inr u) (inl v) = differ (sym g ∙ subst (λ y. In y qs ≡ true) (sym (in-adds p rs (stacked_on all p rs) x (adds-on all p rs) u).0) v)
      at (inr u) (inr v) =
          away-parent p.parent rs qs away (and-right p.is_mapped (has_parent_in rs p) (in-adds p rs (stacked_on all p rs) x (adds-on all p rs) u).1)
          (and-right p.is_mapped (has_parent_in qs p) (in-adds p qs (stacked_on all p qs) x (adds-on all p qs) v).1)

  -- the popups after one that isn't among them have other surfaces
  other-surfaces : (p : StackedPopup) (ps : List StackedPopup) → list_any (same_popup p) ps ≡ false → Each (λ q. p.surface ≡ q.surface → ⊥) ps
  other-surfaces p [] e = tt
  other-surfaces p (q ∷ qs) e = (
    λ same. differ (sym (or-left (same_popup p q) (list_any (same_popup p) qs) e) ∙ equal-numbers q.surface p.surface (sym same)),
    other-surfaces p qs (or-right (same_popup p q) (list_any (same_popup p) qs) e),
  )

  -- the popups that follow are not among the roots once one of another surface is stacked
  still-new : (p : StackedPopup) (rs : List Root) (ps : List StackedPopup) → list_any (same_popup p) ps ≡ false → Each (λ q. In q.surface rs ≡ false) ps
      → Each (λ q. In q.surface (stacked all rs p) ≡ false) ps
  still-new p rs ps e new =
      each-both (λ q. p.surface ≡ q.surface → ⊥) (λ q. In q.surface rs ≡ false) (λ q. In q.surface (rs ++ stacked_on all p rs) ≡ false)
      (λ q other n. none-append (roots_at q.surface) rs (stacked_on all p rs) n (none-added p rs (stacked_on all p rs) q.surface (adds-on all p rs) other))
      ps (other-surfaces p ps e) new

  pub stacked-away : (rs qs : List Root) (ps : List StackedPopup) → AreAway rs qs → Each (λ p. In p.surface rs ≡ false) ps → Each (λ p. In p.surface qs ≡ false) ps → AreOnce same_popup ps
      → AreAway (fold (stacked all) rs ps) (fold (stacked all) qs ps)
  stacked-away rs qs [] away f g once = away
  stacked-away rs qs (p ∷ ps) away f g once =
      stacked-away (stacked all rs p) (stacked all qs p) ps (away-step p rs qs away f.0 g.0) (still-new p rs ps once.0 f.1) (still-new p qs ps once.0 g.1) once.1

  -- the popups are none of a toplevel's own surface
  pub none-own : (t : Root) (ps : List StackedPopup) → list_any (has_surface t.surface) ps ≡ false → Each (λ p. In p.surface (t ∷ []) ≡ false) ps
  none-own t [] e = tt
  none-own t (p ∷ ps) e = (
    or_from (roots_at p.surface t) false (false_from_ne_true (roots_at p.surface t) (λ f. differ (sym (or-left (has_surface t.surface p) (list_any (has_surface t.surface) ps) e)
        ∙ equal-numbers p.surface t.surface (sym (eqb-true t.surface p.surface f))))) refl,
    none-own t ps (or-right (has_surface t.surface p) (list_any (has_surface t.surface) ps) e),
  )

  own-surface : (t : Root) (x : ℕ) → In x (t ∷ []) ≡ true → t.surface ≡ x
  own-surface t x e = eqb-true t.surface x (first (roots_at x t) e)
    where
      first : (a : Bool) → (a || false) ≡ true → a ≡ true
      first true g = refl
      first false g = g

  -- Two toplevels, none of which is a popup, have no roots in common.
  pub toplevels-away : (t s : Root) (ps : List StackedPopup) → (t.surface ≡ s.surface → ⊥) → list_any (has_surface t.surface) ps ≡ false → list_any (has_surface s.surface) ps ≡ false
      → AreOnce same_popup ps → AreAway (roots_of all t ps) (roots_of all s ps)
  toplevels-away t s ps differs none-t none-s once =
      stacked-away (t ∷ []) (s ∷ []) ps (λ x a b. differs (own-surface t x a ∙ sym (own-surface s x b))) (none-own t ps none-t) (none-own s ps none-s) once
