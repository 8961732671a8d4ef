-- What touches one tree of a client, and of its popups no more than that of the tree's root, keeps each toplevel that this tree isn't stacked
-- with.
use Rattle.std.proofs.Common.{◌≡◌, ℕ, Bool, true, false, cond, Option, Some, None, List, [], ◌∷◌, refl, ap, sym, subst, ◌∙◌, inl, inr}
use Rattle.std.specs.Prelude.{◌==◌, ◌||◌, ◌⊎◌, ◌≢◌, filter, find, not}
use Rattle.std.specs.List.{list_any}
use Rattle.std.proofs.lemmas.Bool.{and_right, eqb-true, false_from_ne_true, or_left, or_right}
use Rattle.spec_desktop.specs.Stacking.{Standing, geometry_in, is_of, root_of}
use Rattle.spec_desktop.specs.Windows.{Root, StackedPopup}
use Rattle.spec_desktop.specs.Desktop.{Desktop, owned_in}
use Rattle.law_desktop.specs.Soundness.{AreOnce, IsNoChild, IsSound, has_surface}
use Rattle.law_desktop.proofs.Marks.Stacks.{equal-numbers, same-number}
use Rattle.law_desktop.proofs.Soundness.Trees.{all-there}
use Rattle.law_desktop.proofs.Soundness.Windows.{In, same_popup, same_root, stacked-each}
use Rattle.law_desktop.specs.ToplevelRoots.{has_parent_in, is_on_one}
use Rattle.law_desktop.specs.StackedWith.{popup_of, stacked_roots}
use Rattle.law_desktop.proofs.RootsOf.Away.{IsIn, IsOnRoot, each-in, root-or-popup}
use Rattle.law_desktop.proofs.RootsOf.Kept.{RootIsKept, ToplevelIsKept, popups_in, surfaces_in}
use Rattle.law_desktop.proofs.RootsOf.Staying.{in-stacked}
use Rattle.law_desktop.proofs.RootsOf.Turns.{AreFrom, popup_surfaces}
use Rattle.law_desktop.proofs.Truth.{and-right, differ, or-left, or-right}
use Rattle.law_desktop.proofs.Lists.Each.{Each, each-both, each-map}

-- ---- what is touched

-- the popup of another surface
abbrev pub is_other : ℕ → StackedPopup → Bool
is_other root p = not (p.surface == root)

-- a popup has the parent that the one of the same surface had before
pub record HadParent (root : ℕ) (ps : List StackedPopup) (q : StackedPopup) : Type 0 where
  pub popup : StackedPopup
  pub here : IsIn popup ps
  pub own : popup.surface ≡ root
  pub same : q.parent ≡ popup.parent

-- All other trees of the client are kept, and all other toplevels and popups; and that of the root, if it is one, has the parent that it had.
pub record Touches (c root : ℕ) (d e : Desktop) : Type 0 where
  pub others : (other : ℕ) → other ≢ c → owned_in e other ≡ owned_in d other
  pub trees : (x : ℕ) → IsNoChild x (surfaces_in d c) → (x == root) ≡ false → RootIsKept c d e x
  pub geometries : (x : ℕ) → list_any (is_of c x) d.standing ≡ true → (x == root) ≡ false → geometry_in (owned_in e c) x ≡ geometry_in (owned_in d c) x
  pub popups : filter (is_other root) (popups_in e c) ≡ filter (is_other root) (popups_in d c)
  pub placed : Each (λ q. q.surface ≡ root → HadParent root (popups_in d c) q) (popups_in e c)
  pub order : AreFrom (popup_surfaces (popups_in e c)) (popup_surfaces (popups_in d c))

-- ---- lists

-- what is left out fails
filter-others : (k : StackedPopup → Bool) (root : ℕ) (ps : List StackedPopup) → Each (λ p. p.surface ≡ root → k p ≡ false) ps → filter k ps ≡ filter k (filter (is_other root) ps)
filter-others k root [] each = refl
filter-others k root (p ∷ ps) each = at (p.surface == root) refl (filter-others k root ps each.1)
  where
    at : (b : Bool) → (p.surface == root) ≡ b → filter k ps ≡ filter k (filter (is_other root) ps)
        → cond (k p) (p ∷ filter k ps) (filter k ps) ≡ filter k (cond (not b) (p ∷ filter (is_other root) ps) (filter (is_other root) ps))
    at true e rest = ap (λ b. cond b (p ∷ filter k ps) (filter k ps)) (each.0 (eqb-true p.surface root e)) ∙ rest
    at false e rest = ap (λ qs. cond (k p) (p ∷ qs) qs) rest

-- a popup of these is the one of its surface
pub once-found : (x : ℕ) (ps : List StackedPopup) → AreOnce same_popup ps → (p : StackedPopup) → IsIn p ps → p.surface ≡ x → find (has_surface x) ps ≡ Some p
once-found x [] once p here is = absurd here
once-found x (q ∷ qs) once p (inl same) is =
    ap (λ b. cond b (Some q) (find (has_surface x) qs)) (equal-numbers q.surface x (ap (λ (r : StackedPopup). r.surface) same ∙ is)) ∙ ap (λ (r : StackedPopup). Some r) same
once-found x (q ∷ qs) once p (inr here) is =
    ap (λ b. cond b (Some q) (find (has_surface x) qs))
    (false_from_ne_true (q.surface == x) (λ e. differ (sym once.0 ∙ in-any q p qs here (is ∙ sym (eqb-true q.surface x e)))))
    ∙ once-found x qs once.1 p here is
  where
    in-any : (q p : StackedPopup) (ps : List StackedPopup) → IsIn p ps → p.surface ≡ q.surface → list_any (same_popup q) ps ≡ true
    in-any q p [] here is = absurd here
    in-any q p (r ∷ rs) (inl same) is =
        or_left (same_popup q r) (list_any (same_popup q) rs) (equal-numbers r.surface q.surface (ap (λ (r : StackedPopup). r.surface) same ∙ is))
    in-any q p (r ∷ rs) (inr here) is = or_right (same_popup q r) (list_any (same_popup q) rs) (in-any q p rs here is)

each-is-in : {X : Type 0} (xs : List X) → Each (λ x. IsIn x xs) xs
each-is-in [] = tt
each-is-in {X = X} (x ∷ xs) = (inl refl, each-map (λ y. IsIn y xs) (λ y. (x ≡ y) ⊎ IsIn y xs) (λ y here. inr here) xs (each-is-in xs))

-- ---- the roots of a toplevel

-- it is the toplevel, or a popup
abbrev pub IsTopOrPopup : ℕ → List StackedPopup → ℕ → Type 0
IsTopOrPopup t ps x = (x ≡ t) ⊎ (list_any (has_surface x) ps ≡ true)

pub tops-or-popups : (d : Desktop) (s : Standing) → Each (λ r. IsTopOrPopup s.surface (popups_in d s.client) r.surface) (stacked_roots d s)
tops-or-popups d s =
    stacked-each (λ r. IsTopOrPopup s.surface (popups_in d s.client) r.surface) (surfaces_in d s.client) (root_of (owned_in d) s ∷ []) (popups_in d s.client) (inl refl, tt)
    (each-map (λ p. list_any (has_surface p.surface) (popups_in d s.client) ≡ true)
    (λ p. (r : Root) → IsTopOrPopup s.surface (popups_in d s.client) r.surface → IsTopOrPopup s.surface (popups_in d s.client) p.surface) (λ p there r is. inr there)
    (popups_in d s.client) (all-there same_popup (λ p. same-number p.surface) (popups_in d s.client)))

-- a toplevel that stands, or a popup, is no child
pub no-child : (c : ℕ) (d : Desktop) → IsSound d → (t x : ℕ) → list_any (is_of c t) d.standing ≡ true → IsTopOrPopup t (popups_in d c) x → IsNoChild x (surfaces_in d c)
no-child c d sound t x stands (inl is) = subst (λ n. IsNoChild n (surfaces_in d c)) (sym is) (sound.toplevel_roots c t stands)
no-child c d sound t x stands (inr there) = sound.popup_roots c x there

-- ---- a toplevel that the tree isn't stacked with

-- The root isn't stacked with it, and neither is the parent of its popup.
pub record IsApart (root : ℕ) (d : Desktop) (s : Standing) : Type 0 where
  pub outside : In root (stacked_roots d s) ≡ false
  pub parent : Each (λ p. p.surface ≡ root → has_parent_in (stacked_roots d s) p ≡ false) (popups_in d s.client)

module _ (root : ℕ) (d e : Desktop) (sound : IsSound d) (s : Standing) (stands : list_any (is_of s.client s.surface) d.standing ≡ true) (touches : Touches s.client root d e) where
  pub apart-kept : IsApart root d s → ToplevelIsKept d e s
  apart-kept apart = record {
    geometry = touches.geometries s.surface stands
        (false_from_ne_true (s.surface == root) (λ is. differ (sym apart.outside
        ∙ in-stacked (surfaces_in d s.client) root (root_of (owned_in d) s ∷ []) (popups_in d s.client) (or_left (s.surface == root) false is))));
    popups =
        filter-others (is_on_one (stacked_roots d s)) root (popups_in e s.client) after
        ∙ (ap (filter (is_on_one (stacked_roots d s))) touches.popups ∙ sym (filter-others (is_on_one (stacked_roots d s)) root (popups_in d s.client) before));
    roots =
        each-both (λ r. IsTopOrPopup s.surface (popups_in d s.client) r.surface) (λ r. In r.surface (stacked_roots d s) ≡ true) (λ r. RootIsKept s.client d e r.surface)
        (λ r is there. touches.trees r.surface (no-child s.client d sound s.surface r.surface stands is)
        (false_from_ne_true (r.surface == root) (λ same. differ (sym apart.outside ∙ subst (λ x. In x (stacked_roots d s) ≡ true) (eqb-true r.surface root same) there))))
        (stacked_roots d s) (tops-or-popups d s) (all-there same_root (λ r. same-number r.surface) (stacked_roots d s));
  }
    where
      before : Each (λ p. p.surface ≡ root → is_on_one (stacked_roots d s) p ≡ false) (popups_in d s.client)
      before =
          each-map (λ p. p.surface ≡ root → has_parent_in (stacked_roots d s) p ≡ false) (λ p. p.surface ≡ root → is_on_one (stacked_roots d s) p ≡ false)
          (λ p known is. and_right p.is_mapped (has_parent_in (stacked_roots d s) p) (known is)) (popups_in d s.client) apart.parent

      one : (q : StackedPopup) → HadParent root (popups_in d s.client) q → is_on_one (stacked_roots d s) q ≡ false
      one q had =
          and_right q.is_mapped (has_parent_in (stacked_roots d s) q)
          (ap (λ parent. has_parent_in (stacked_roots d s) (record q { parent = parent })) had.same
          ∙ each-in (λ p. p.surface ≡ root → has_parent_in (stacked_roots d s) p ≡ false) had.popup (popups_in d s.client) had.here apart.parent had.own)

      after : Each (λ q. q.surface ≡ root → is_on_one (stacked_roots d s) q ≡ false) (popups_in e s.client)
      after =
          each-map (λ q. q.surface ≡ root → HadParent root (popups_in d s.client) q) (λ q. q.surface ≡ root → is_on_one (stacked_roots d s) q ≡ false)
          (λ q had is. one q (had is)) (popups_in e s.client) touches.placed

-- ---- which toplevels it isn't stacked with

-- the root is no popup, and not the toplevel; or the parent of its popup is elsewhere
abbrev pub IsElsewhere : ℕ → Desktop → Standing → Option StackedPopup → Type 0
IsElsewhere root d s None = (s.surface == root) ≡ false
IsElsewhere root d s (Some p) = has_parent_in (stacked_roots d s) p ≡ false

module _ (root : ℕ) (d : Desktop) (sound : IsSound d) (s : Standing) (stands : list_any (is_of s.client s.surface) d.standing ≡ true) where
  pub elsewhere-apart : (o : Option StackedPopup) → popup_of s.client root d ≡ o → IsElsewhere root d s o → IsApart root d s
  elsewhere-apart o found elsewhere = record {
    outside = false_from_ne_true (In root (stacked_roots d s)) (λ there. out (root-or-popup (surfaces_in d s.client) root (root_of (owned_in d) s ∷ []) (popups_in d s.client) there));
    parent = each-map (λ p. IsIn p (popups_in d s.client)) (λ p. p.surface ≡ root → has_parent_in (stacked_roots d s) p ≡ false) parent (popups_in d s.client)
        (each-is-in (popups_in d s.client));
  }
    where
      not-its : (o : Option StackedPopup) → popup_of s.client root d ≡ o → IsElsewhere root d s o → (p : StackedPopup) → popup_of s.client root d ≡ Some p
          → has_parent_in (stacked_roots d s) p ≡ false
      not-its None found elsewhere p is = absurd (cc)
      not-its (Some q) found elsewhere p is = at (sym found ∙ is)
        where
          at : Some q ≡ Some p → has_parent_in (stacked_roots d s) p ≡ false
          at same = ap (λ (o : Option StackedPopup). holds o) (sym same) ∙ elsewhere
            where
              holds : Option StackedPopup → Bool
              holds None = false
              holds (Some r) = has_parent_in (stacked_roots d s) r

      parent : (p : StackedPopup) → IsIn p (popups_in d s.client) → p.surface ≡ root → has_parent_in (stacked_roots d s) p ≡ false
      parent p here is = not-its o found elsewhere p (once-found root (popups_in d s.client) (sound.popups s.client) p here is)

      own : (o : Option StackedPopup) → popup_of s.client root d ≡ o → IsElsewhere root d s o → s.surface ≡ root → ⊥
      own None found elsewhere is = differ (sym elsewhere ∙ equal-numbers s.surface root is)
      own (Some p) found elsewhere is = found-there p (popups_in d s.client) found (ap (λ x. list_any (has_surface x) (popups_in d s.client)) (sym is) ∙ sound.levels s.client s.surface stands)
        where
          found-there : (p : StackedPopup) (ps : List StackedPopup) → find (has_surface root) ps ≡ Some p → list_any (has_surface root) ps ≡ false → ⊥
          found-there p [] found none = absurd (cc)
          found-there p (q ∷ qs) found none =
              found-there p qs (sym (ap (λ b. cond b (Some q) (find (has_surface root) qs)) (or-left (has_surface root q) (list_any (has_surface root) qs) none)) ∙ found)
              (or-right (has_surface root q) (list_any (has_surface root) qs) none)

      first : (a : Bool) → (a || false) ≡ true → a ≡ true
      first true g = refl
      first false g = g

      out : (In root (root_of (owned_in d) s ∷ []) ≡ true) ⊎ IsOnRoot (stacked_roots d s) (popups_in d s.client) root → ⊥
      out (inl there) = own o found elsewhere (eqb-true s.surface root (first (s.surface == root) there))
      out (inr on) =
          differ (sym (parent on.popup on.known on.own) ∙ and-right on.popup.is_mapped (has_parent_in (stacked_roots d s) on.popup) on.mapped)
