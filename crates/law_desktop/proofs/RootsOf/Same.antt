-- Where one tree is touched, no surface is in the tree of another root than before; and the trees of the toplevel that it is stacked with stand
-- in the order of its popups, before and after.
use Rattle.std.proofs.Common.{◌≡◌, ℕ, Bool, true, false, Option, Some, None, List, [], ◌∷◌, refl, ap, sym, subst, ◌∙◌, inl, inr}
use Rattle.std.specs.Prelude.{◌==◌, find}
use Rattle.std.specs.List.{list_any}
use Rattle.std.proofs.lemmas.Bool.{eqb-true, false_from_ne_true, or_from}
use Rattle.spec_desktop.specs.Stacking.{Standing, is_of}
use Rattle.spec_desktop.specs.Windows.{Owner, Place, Root, StackedPopup, Window, owner_of, tree}
use Rattle.spec_desktop.specs.Desktop.{Desktop}
use Rattle.law_desktop.specs.Soundness.{AreOnce, IsNoChild, IsSound, has_surface}
use Rattle.law_desktop.proofs.Lists.Standings.{of-client, of-surface}
use Rattle.law_desktop.proofs.Marks.Stacks.{equal-numbers}
use Rattle.law_desktop.proofs.Soundness.Trees.{IsUnder, each-flat, tree-each}
use Rattle.law_desktop.proofs.Soundness.Windows.{one-root, same_popup}
use Rattle.law_desktop.proofs.TreeSteps.Owners.{tree-owned}
use Rattle.law_desktop.specs.StackedWith.{stacked_roots}
use Rattle.law_desktop.specs.Toplevel.{AreInTurn, SameRoot, windows_with, windows_with_standing}
use Rattle.law_desktop.proofs.RootsOf.Kept.{IsRoot, are-roots, popups_in, shown, surfaces_in, tree_in}
use Rattle.law_desktop.proofs.RootsOf.Stacked.{found-any}
use Rattle.law_desktop.proofs.RootsOf.Touched.{IsTopOrPopup, no-child, tops-or-popups}
use Rattle.law_desktop.proofs.RootsOf.Turns.{AreApart, AreFrom, IsOfRoot, from-first, in-turn, none-in-turn, popup_surfaces, roots-from, surfaces_of, through}
use Rattle.law_desktop.proofs.Truth.{differ, or-left, or-right}
use Rattle.law_desktop.proofs.Lists.Each.{Each, each-both, each-map}
use Rattle.law_desktop.proofs.Lists.Keys.{found-passes}

-- ---- the root of a window

-- A window is of a surface under its root; and under it on the other desktop too, unless the root is this one.
pub record IsOfTree (c root : ℕ) (this other : Desktop) (w : Window) : Type 0 where
  pub no_child : IsNoChild w.owner.root (surfaces_in this c)
  pub under : IsUnder c (surfaces_in this c) w.owner.root w
  pub elsewhere : (w.owner.root == root) ≡ false → IsNoChild w.owner.root (surfaces_in other c) × IsUnder c (surfaces_in other c) w.owner.root w

module _ (c root : ℕ) (d e : Desktop) (had : IsSound d) (has : IsSound e) where
  pub same-root : (w v : Window) → IsOfTree c root e d w → IsOfTree c root d e v → SameRoot w v
  same-root w v of-w of-v same = at (v.owner.root == root) (w.owner.root == root) refl refl
    where
      at : (a b : Bool) → (v.owner.root == root) ≡ a → (w.owner.root == root) ≡ b → w.owner.root ≡ v.owner.root
      at false b f g =
          let there = of-v.elsewhere f in
          one-root (surfaces_in e c) (has.trees c) c w.owner.root v.owner.root w v of-w.no_child there.0 of-w.under there.1 same
      at true false f g =
          let there = of-w.elsewhere g in
          one-root (surfaces_in d c) (had.trees c) c w.owner.root v.owner.root w v there.0 of-v.no_child there.1 of-v.under same
      at true true f g = eqb-true w.owner.root root g ∙ sym (eqb-true v.owner.root root f)

-- ---- the windows of a toplevel

module _ (c t root : ℕ) (this other : Desktop) (sound : IsSound this) (sound-other : IsSound other)
    (members : (x : ℕ) → (x == root) ≡ false → IsTopOrPopup t (popups_in this c) x → IsTopOrPopup t (popups_in other c) x)
    (stays : (t == root) ≡ false → other.standing ≡ this.standing)
    (same : (x : ℕ) → (x == root) ≡ false → IsNoChild x (surfaces_in this c) → IsNoChild x (surfaces_in other c) → (owner : Owner) (place : Place)
    → tree 17 owner (surfaces_in this c) x place ≡ tree 17 owner (surfaces_in other c) x place) where
  module _ (stands : list_any (is_of c t) this.standing ≡ true) where
    no-child-there : (x : ℕ) → (x == root) ≡ false → IsTopOrPopup t (popups_in this c) x → IsNoChild x (surfaces_in other c)
    no-child-there x out is = at (members x out is)
      where
        at : IsTopOrPopup t (popups_in other c) x → IsNoChild x (surfaces_in other c)
        at (inl own) =
            subst (λ n. IsNoChild n (surfaces_in other c)) (sym own)
            (sound-other.toplevel_roots c t (ap (list_any (is_of c t)) (stays (subst (λ n. (n == root) ≡ false) own out)) ∙ stands))
        at (inr there) = sound-other.popup_roots c x there

    of-root : (x : ℕ) → IsTopOrPopup t (popups_in this c) x → (owner : Owner) → owner.client ≡ c → owner.root ≡ x → (place : Place)
        → Each (IsOfTree c root this other) (tree 17 owner (surfaces_in this c) x place)
    of-root x is owner of-c at-x place =
        each-both (λ w. w.owner ≡ owner) (λ w. IsUnder c (surfaces_in this c) x w × ((x == root) ≡ false → IsNoChild x (surfaces_in other c) × IsUnder c (surfaces_in other c) x w))
        (IsOfTree c root this other)
        (λ w of under.
        let own : x ≡ w.owner.root = sym (ap (λ o. o.root) of ∙ at-x) in
        record {
          no_child = subst (λ n. IsNoChild n (surfaces_in this c)) own here;
          under = subst (λ n. IsUnder c (surfaces_in this c) n w) own under.0;
          elsewhere = subst (λ n. (n == root) ≡ false → IsNoChild n (surfaces_in other c) × IsUnder c (surfaces_in other c) n w) own under.1;
        })
        (tree 17 owner (surfaces_in this c) x place) (tree-owned 17 owner (surfaces_in this c) x place)
        (each-both (IsUnder c (surfaces_in this c) x) (λ w. (x == root) ≡ false → IsNoChild x (surfaces_in other c) × IsUnder c (surfaces_in other c) x w)
        (λ w. IsUnder c (surfaces_in this c) x w × ((x == root) ≡ false → IsNoChild x (surfaces_in other c) × IsUnder c (surfaces_in other c) x w)) (λ w a b. (a, b))
        (tree 17 owner (surfaces_in this c) x place)
        (subst (λ n. Each (IsUnder n (surfaces_in this c) x) (tree 17 owner (surfaces_in this c) x place)) of-c (tree-each 17 owner (surfaces_in this c) (sound.trees c) x place))
        (there (x == root) refl))
      where
        here : IsNoChild x (surfaces_in this c)
        here = no-child c this sound t x stands is

        there : (b : Bool) → (x == root) ≡ b
            → Each (λ w. (x == root) ≡ false → IsNoChild x (surfaces_in other c) × IsUnder c (surfaces_in other c) x w) (tree 17 owner (surfaces_in this c) x place)
        there true e =
            each-map (λ w. w.owner ≡ owner) (λ w. (x == root) ≡ false → IsNoChild x (surfaces_in other c) × IsUnder c (surfaces_in other c) x w)
            (λ w of out. absurd (differ (sym out ∙ e))) (tree 17 owner (surfaces_in this c) x place) (tree-owned 17 owner (surfaces_in this c) x place)
        there false e =
            let no = no-child-there x e is in
            each-map (IsUnder c (surfaces_in other c) x) (λ w. (x == root) ≡ false → IsNoChild x (surfaces_in other c) × IsUnder c (surfaces_in other c) x w)
            (λ w under out. (no, under)) (tree 17 owner (surfaces_in this c) x place)
            (subst (λ (ws : List Window). Each (IsUnder c (surfaces_in other c) x) ws) (sym (same x e here no owner place))
            (subst (λ n. Each (IsUnder n (surfaces_in other c) x) (tree 17 owner (surfaces_in other c) x place)) of-c
            (tree-each 17 owner (surfaces_in other c) (sound-other.trees c) x place)))

    of-standing : (s : Standing) → is_of c t s ≡ true → Each (IsOfTree c root this other) (shown this s)
    of-standing s its =
        each-flat (IsOfTree c root this other) (tree_in this) (stacked_roots this s)
        (each-both (IsRoot s) (λ r. IsTopOrPopup s.surface (popups_in this s.client) r.surface) (λ r. Each (IsOfTree c root this other) (tree_in this r))
        (λ r is top.
        let own : r.client ≡ c = is.client ∙ of-client c t s its in
        subst (λ n. Each (IsOfTree c root this other) (tree 17 (owner_of r) (surfaces_in this n) r.surface r.place)) (sym own)
        (of-root r.surface
        (subst (λ n. IsTopOrPopup n (popups_in this c) r.surface) (of-surface c t s its)
        (subst (λ n. IsTopOrPopup s.surface (popups_in this n) r.surface) (of-client c t s its) top))
        (owner_of r) own refl r.place))
        (stacked_roots this s) (are-roots this s) (tops-or-popups this s))

  pub of-trees : Each (IsOfTree c root this other) (windows_with c t this)
  of-trees = at (find (is_of c t) this.standing) refl
    where
      at : (o : Option Standing) → find (is_of c t) this.standing ≡ o → Each (IsOfTree c root this other) (windows_with_standing this o)
      at None found = tt
      at (Some s) found = of-standing (found-any (is_of c t) this.standing s found) s (found-passes (is_of c t) this.standing s found)

-- ---- the order of the trees

-- a toplevel's, from these
pub turn-in : (c t : ℕ) (f : Desktop) (xs : List ℕ) → AreFrom (popup_surfaces (popups_in f c)) xs → AreApart (t ∷ xs) → AreInTurn (t ∷ xs) (windows_with c t f)
turn-in c t f xs from apart = at (find (is_of c t) f.standing) refl
  where
    own : (r : Root) → Each (IsOfRoot r.surface) (tree_in f r)
    own r =
        each-map (λ w. w.owner ≡ owner_of r) (IsOfRoot r.surface) (λ w of. ap (λ o. o.root) of) (tree_in f r)
        (tree-owned 17 (owner_of r) (surfaces_in f r.client) r.surface r.place)

    of : (s : Standing) → is_of c t s ≡ true → AreFrom (surfaces_of (stacked_roots f s)) (t ∷ xs)
    of s its =
        through (surfaces_of (stacked_roots f s)) (t ∷ popup_surfaces (popups_in f c)) (t ∷ xs)
        (subst (λ n. AreFrom (surfaces_of (stacked_roots f s)) (n ∷ popup_surfaces (popups_in f c))) (of-surface c t s its)
        (subst (λ n. AreFrom (surfaces_of (stacked_roots f s)) (s.surface ∷ popup_surfaces (popups_in f n))) (of-client c t s its)
        (roots-from (surfaces_in f s.client) _ (popups_in f s.client))))
        (from-first t (popup_surfaces (popups_in f c)) xs from)

    at : (o : Option Standing) → find (is_of c t) f.standing ≡ o → AreInTurn (t ∷ xs) (windows_with_standing f o)
    at None found = none-in-turn (t ∷ xs)
    at (Some s) found = in-turn (tree_in f) own (stacked_roots f s) (t ∷ xs) (of s (found-passes (is_of c t) f.standing s found)) apart

-- the surfaces of popups are apart, and from one that has none
surfaces-once : (ps : List StackedPopup) → AreOnce same_popup ps → AreApart (popup_surfaces ps)
surfaces-once [] once = tt
surfaces-once (p ∷ ps) once = (none ps once.0, surfaces-once ps once.1)
  where
    none : (qs : List StackedPopup) → list_any (same_popup p) qs ≡ false → list_any (λ y. p.surface == y) (popup_surfaces qs) ≡ false
    none [] e = refl
    none (q ∷ qs) e =
        or_from (p.surface == q.surface) (list_any (λ y. p.surface == y) (popup_surfaces qs))
        (false_from_ne_true (p.surface == q.surface) (λ f. differ (sym (or-left (same_popup p q) (list_any (same_popup p) qs) e) ∙ equal-numbers q.surface p.surface (sym (eqb-true p.surface q.surface f)))))
        (none qs (or-right (same_popup p q) (list_any (same_popup p) qs) e))

none-surface : (t : ℕ) (ps : List StackedPopup) → list_any (has_surface t) ps ≡ false → list_any (λ y. t == y) (popup_surfaces ps) ≡ false
none-surface t [] e = refl
none-surface t (q ∷ qs) e =
    or_from (t == q.surface) (list_any (λ y. t == y) (popup_surfaces qs))
    (false_from_ne_true (t == q.surface) (λ f. differ (sym (or-left (has_surface t q) (list_any (has_surface t) qs) e) ∙ equal-numbers q.surface t (sym (eqb-true t q.surface f)))))
    (none-surface t qs (or-right (has_surface t q) (list_any (has_surface t) qs) e))

pub apart-all : (c t : ℕ) (d : Desktop) → IsSound d → list_any (has_surface t) (popups_in d c) ≡ false → AreApart (t ∷ popup_surfaces (popups_in d c))
apart-all c t d sound none = (none-surface t (popups_in d c) none, surfaces-once (popups_in d c) (sound.popups c))
