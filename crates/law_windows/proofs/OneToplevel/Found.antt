-- The toplevel that is found by the windows of a tree, or by those of its parent, is the one that the tree is stacked with.
use Rattle.std.proofs.Common.{◌≡◌, ℕ, Bool, true, false, cond, Option, Some, None, List, [], ◌∷◌, refl, ap, ap₂, sym, subst, ◌∙◌, inl, inr}
use Rattle.std.specs.Prelude.{◌==◌, ◌||◌, ◌⊎◌, find, flat_map}
use Rattle.std.specs.List.{list_any}
use Rattle.std.specs.Option.{option_and_then, option_map, option_or}
use Rattle.std.proofs.lemmas.Bool.{and_from, eqb-true, false_from_ne_true, or_left, or_right}
use Rattle.std.proofs.lemmas.List.Folds.{list_any-append}
use Rattle.std.proofs.lemmas.Option.{same_Some}
use Rattle.wl_surface.specs.Surfaces.{history_in}
use Rattle.spec_desktop.specs.Stacking.{Standing, is_of, root_of, shows_buffer}
use Rattle.spec_desktop.specs.Windows.{Owner, Root, StackedPopup, Window, owner_of}
use Rattle.spec_desktop.specs.Desktop.{Desktop, owned_in}
use Rattle.spec_desktop.specs.Stacked.{all_windows}
use Rattle.law_desktop.specs.Soundness.{AreOnce, has_surface}
use Rattle.law_desktop.proofs.Lists.Standings.{of-client, of-surface}
use Rattle.law_desktop.proofs.Marks.Stacks.{equal-numbers, same-number}
use Rattle.law_desktop.proofs.Soundness.Trees.{all-there, each-flat}
use Rattle.law_desktop.proofs.Soundness.Windows.{In, same_popup, same_root}
use Rattle.law_desktop.specs.TreeMarksLaws.{has_root}
use Rattle.law_desktop.proofs.TreeSteps.Owners.{tree-owned}
use Rattle.law_desktop.specs.Changes.{HasTrees}
use Rattle.law_desktop.specs.ToplevelRoots.{has_parent_in}
use Rattle.law_desktop.specs.StackedWith.{HoldsParent, IsStackedAs, popup_of, stacked_roots}
use Rattle.law_desktop.proofs.RootsOf.Away.{IsIn, IsOnRoot, each-in, root-or-popup}
use Rattle.law_desktop.proofs.RootsOf.Kept.{IsRoot, are-roots, popups_in, shown, shown_of, surfaces_in, tree_in}
use Rattle.law_desktop.proofs.RootsOf.Orders.{in-order-has-trees}
use Rattle.law_desktop.proofs.RootsOf.Stacked.{all-found, found-any}
use Rattle.law_desktop.proofs.RootsOf.Staying.{all-each, in_parent}
use Rattle.law_desktop.proofs.Truth.{and-left, and-right, differ}
use Rattle.law_desktop.proofs.Lists.Each.{Each, each-append, each-both, each-map}
use Rattle.law_desktop.proofs.Lists.Tests.{none-any}
use Rattle.law_desktop.proofs.Lists.Keys.{found-passes}
use Rattle.law_windows.proofs.TurnedWindows.Shown.{shows-window}
use Rattle.law_windows.specs.Runs.Lookup.{FindsToplevels, FindsToplevelsInOrder, toplevel_by_parent, toplevel_found, toplevel_in}

-- ---- each window is of a root that is stacked with its toplevel

record IsOf (d : Desktop) (w : Window) : Type 0 where
  standing : Standing
  stands : find (is_of w.owner.client w.owner.toplevel) d.standing ≡ Some standing
  there : In w.owner.root (stacked_roots d standing) ≡ true

of-one : (d : Desktop) (s : Standing) → find (is_of s.client s.surface) d.standing ≡ Some s → Each (IsOf d) (shown d s)
of-one d s found =
    each-flat (IsOf d) (tree_in d) (stacked_roots d s)
    (each-both (IsRoot s) (λ r. In r.surface (stacked_roots d s) ≡ true) (λ r. Each (IsOf d) (tree_in d r))
    (λ r is there.
    each-map (λ w. w.owner ≡ owner_of r) (IsOf d)
    (λ w of. record {
      standing = s;
      stands = ap (λ (o : Owner). find (is_of o.client o.toplevel) d.standing) of ∙ (ap₂ (λ a b. find (is_of a b) d.standing) is.client is.toplevel ∙ found);
      there = ap (λ (o : Owner). In o.root (stacked_roots d s)) of ∙ there;
    })
    (tree_in d r) (tree-owned 17 (owner_of r) (surfaces_in d r.client) r.surface r.place))
    (stacked_roots d s) (are-roots d s) (all-there same_root (λ r. same-number r.surface) (stacked_roots d s)))

of-all : (d : Desktop) (ss : List Standing) → Each (λ s. find (is_of s.client s.surface) d.standing ≡ Some s) ss → Each (IsOf d) (shown_of d ss)
of-all d [] found = tt
of-all d (s ∷ ss) found = each-append (IsOf d) (shown d s) (shown_of d ss) (of-one d s found.0) (of-all d ss found.1)

-- A toplevel of this surface stands, and the root is stacked with it.
record HasRoot (c root toplevel : ℕ) (d : Desktop) : Type 0 where
  standing : Standing
  stands : find (is_of c toplevel) d.standing ≡ Some standing
  there : In root (stacked_roots d standing) ≡ true

-- what is found by the windows
found-with : (c root t : ℕ) (d : Desktop) (ws : List Window) → Each (IsOf d) ws → toplevel_in c root ws ≡ Some t → HasRoot c root t d
found-with c root t d [] each e = absurd (cc)
found-with c root t d (w ∷ ws) each e = at (has_root c root w) refl (found-with c root t d ws each.1) e
  where
    at : (b : Bool) → has_root c root w ≡ b → (toplevel_in c root ws ≡ Some t → HasRoot c root t d)
        → option_map (λ v. v.owner.toplevel) (cond b (Some w) (find (has_root c root) ws)) ≡ Some t → HasRoot c root t d
    at true its later e =
        let is = each.0 in
        record {
          standing = is.standing;
          stands = ap₂ (λ a b. find (is_of a b) d.standing) (eqb-true c w.owner.client (and-left (c == w.owner.client) (root == w.owner.root) its))
              (sym (same_Some w.owner.toplevel t e)) ∙ is.stands;
          there = ap (λ n. In n (stacked_roots d is.standing)) (eqb-true root w.owner.root (and-right (c == w.owner.client) (root == w.owner.root) its)) ∙ is.there;
        }
    at false its later e = later e

-- ---- each root that is stacked with a toplevel has a window

module _ (d : Desktop) (had : HasTrees d) (s : Standing) (stands : list_any (is_of s.client s.surface) d.standing ≡ true) (x : ℕ) where
  its-own : In x (root_of (owned_in d) s ∷ []) ≡ true → s.surface ≡ x
  its-own e = eqb-true s.surface x (first (s.surface == x) e)
    where
      first : (a : Bool) → (a || false) ≡ true → a ≡ true
      first true g = refl
      first false g = g

  pub root-shows : In x (stacked_roots d s) ≡ true → shows_buffer (history_in x (surfaces_in d s.client)) ≡ true
  root-shows there = at (root-or-popup (surfaces_in d s.client) x (root_of (owned_in d) s ∷ []) (popups_in d s.client) there)
    where
      at : (In x (root_of (owned_in d) s ∷ []) ≡ true) ⊎ IsOnRoot (stacked_roots d s) (popups_in d s.client) x
          → shows_buffer (history_in x (surfaces_in d s.client)) ≡ true
      at (inl own) = subst (λ n. shows_buffer (history_in n (surfaces_in d s.client)) ≡ true) (its-own own) (had.toplevels_show s.client s.surface stands)
      at (inr on) =
          subst (λ n. shows_buffer (history_in n (surfaces_in d s.client)) ≡ true) on.own
          (each-in (λ p. p.is_mapped ≡ true → shows_buffer (history_in p.surface (surfaces_in d s.client)) ≡ true) on.popup (popups_in d s.client) on.known
          (all-each (λ p. p.is_mapped ≡ true → shows_buffer (history_in p.surface (surfaces_in d s.client)) ≡ true) (popups_in d s.client) (had.popups_show s.client))
          (and-left on.popup.is_mapped (has_parent_in (stacked_roots d s) on.popup) on.mapped))

  in-tree : (r : Root) → IsRoot s r → (r.surface == x) ≡ true → shows_buffer (history_in x (surfaces_in d s.client)) ≡ true
      → list_any (has_root s.client x) (tree_in d r) ≡ true
  in-tree r is own shows = some (tree_in d r) refl (tree-owned 17 (owner_of r) (surfaces_in d r.client) r.surface r.place)
    where
      some : (ws : List Window) → tree_in d r ≡ ws → Each (λ w. w.owner ≡ owner_of r) ws → list_any (has_root s.client x) ws ≡ true
      some [] none each =
          absurd (differ (sym (shows-window 16 (owner_of r) (surfaces_in d r.client) r.surface r.place
          (ap₂ (λ n c. shows_buffer (history_in n (surfaces_in d c))) (eqb-true r.surface x own) is.client ∙ shows) none)))
      some (w ∷ ws) whole each =
          or_left (has_root s.client x w) (list_any (has_root s.client x) ws)
          (and_from (s.client == w.owner.client) (x == w.owner.root) (equal-numbers s.client w.owner.client (sym (ap (λ (o : Owner). o.client) each.0 ∙ is.client)))
          (equal-numbers x w.owner.root (sym (ap (λ (o : Owner). o.root) each.0 ∙ eqb-true r.surface x own))))

  in-trees : (rs : List Root) → Each (IsRoot s) rs → In x rs ≡ true → shows_buffer (history_in x (surfaces_in d s.client)) ≡ true
      → list_any (has_root s.client x) (flat_map (tree_in d) rs) ≡ true
  in-trees [] each there shows = absurd (differ there)
  in-trees (r ∷ rs) each there shows =
      list_any-append (has_root s.client x) (tree_in d r) (flat_map (tree_in d) rs) ∙ at (r.surface == x) refl there (λ e. in-trees rs each.1 e shows)
    where
      at : (b : Bool) → (r.surface == x) ≡ b → (b || In x rs) ≡ true → (In x rs ≡ true → list_any (has_root s.client x) (flat_map (tree_in d) rs) ≡ true)
          → (list_any (has_root s.client x) (tree_in d r) || list_any (has_root s.client x) (flat_map (tree_in d) rs)) ≡ true
      at true own e later = or_left (list_any (has_root s.client x) (tree_in d r)) _ (in-tree r each.0 own shows)
      at false own e later = or_right (list_any (has_root s.client x) (tree_in d r)) _ (later e)

  pub in-shown : In x (stacked_roots d s) ≡ true → list_any (has_root s.client x) (shown d s) ≡ true
  in-shown there = in-trees (stacked_roots d s) (are-roots d s) there (root-shows there)

-- its windows are among all
among-all : (p : Window → Bool) (q : Standing → Bool) (d : Desktop) (ss : List Standing) (s : Standing) → find q ss ≡ Some s → list_any p (shown d s) ≡ true
    → list_any p (shown_of d ss) ≡ true
among-all p q d [] s found has = absurd (cc)
among-all p q d (r ∷ ss) s found has = list_any-append p (shown d r) (shown_of d ss) ∙ at (q r) found (λ e. among-all p q d ss s e has)
  where
    at : (b : Bool) → cond b (Some r) (find q ss) ≡ Some s → (find q ss ≡ Some s → list_any p (shown_of d ss) ≡ true)
        → (list_any p (shown d r) || list_any p (shown_of d ss)) ≡ true
    at true e later = or_left (list_any p (shown d r)) _ (subst (λ (t : Standing). list_any p (shown d t) ≡ true) (sym (same_Some r s e)) has)
    at false e later = or_right (list_any p (shown d r)) _ (later e)

none-mapped : {X Y : Type 0} (f : X → Y) (o : Option X) → option_map f o ≡ None → o ≡ None
none-mapped f None e = refl
none-mapped f (Some x) e = absurd (cc)

-- ---- the popup of a surface is one

once-found : (root : ℕ) (p q : StackedPopup) (ps : List StackedPopup) → AreOnce same_popup ps → IsIn q ps → q.surface ≡ root → find (has_surface root) ps ≡ Some p → q ≡ p
once-found root p q [] once here own found = absurd here
once-found root p q (x ∷ ps) once (inl same) own found =
    sym same ∙ same_Some x p (sym (ap (λ b. cond b (Some x) (find (has_surface root) ps)) (equal-numbers x.surface root (ap (λ (y : StackedPopup). y.surface) same ∙ own))) ∙ found)
once-found root p q (x ∷ ps) once (inr here) own found =
    once-found root p q ps once.1 here own (sym (ap (λ b. cond b (Some x) (find (has_surface root) ps)) (false_from_ne_true (has_surface root x) twice)) ∙ found)
  where
    any-in : (p : StackedPopup → Bool) (ys : List StackedPopup) → IsIn q ys → p q ≡ true → list_any p ys ≡ true
    any-in p [] here e = absurd here
    any-in p (y ∷ ys) (inl same) e = or_left (p y) (list_any p ys) (ap p same ∙ e)
    any-in p (y ∷ ys) (inr here) e = or_right (p y) (list_any p ys) (any-in p ys here e)

    twice : has_surface root x ≡ true → ⊥
    twice e = differ (sym once.0 ∙ any-in (same_popup x) ps here (equal-numbers q.surface x.surface (own ∙ sym (eqb-true x.surface root e))))

no-parent : (rs : List Root) → in_parent None rs ≡ false
no-parent [] = refl
no-parent (r ∷ rs) = no-parent rs

-- ---- what is found

module _ (c root : ℕ) (d : Desktop) (had : HasTrees d) where
  found : (x t : ℕ) → toplevel_in c x (all_windows d) ≡ Some t → HasRoot c x t d
  found x t e = found-with c x t d (all_windows d) (of-all d d.standing (all-found d.standing had.sound.apart)) e

  -- a root without windows is stacked with none
  unstacked : (x : ℕ) → toplevel_in c x (all_windows d) ≡ None → (t : ℕ) (s : Standing) → find (is_of c t) d.standing ≡ Some s → In x (stacked_roots d s) ≡ false
  unstacked x none t s stands = false_from_ne_true (In x (stacked_roots d s)) never
    where
      its : is_of c t s ≡ true
      its = found-passes (is_of c t) d.standing s stands

      there : list_any (is_of s.client s.surface) d.standing ≡ true
      there = ap₂ (λ a b. list_any (is_of a b) d.standing) (of-client c t s its) (of-surface c t s its) ∙ found-any (is_of c t) d.standing s stands

      never : In x (stacked_roots d s) ≡ true → ⊥
      never is =
          differ (sym (none-any (has_root c x) (all_windows d) (none-mapped (λ w. w.owner.toplevel) (find (has_root c x) (all_windows d)) none))
          ∙ among-all (has_root c x) (is_of c t) d d.standing s stands
          (subst (λ n. list_any (has_root n x) (shown d s) ≡ true) (of-client c t s its) (in-shown d had s there x is)))

  module _ (t : ℕ) (has : HasRoot c root t d) where
    its : is_of c t has.standing ≡ true
    its = found-passes (is_of c t) d.standing has.standing has.stands

    or-popup : (In root (root_of (owned_in d) has.standing ∷ []) ≡ true) ⊎ IsOnRoot (stacked_roots d has.standing) (popups_in d has.standing.client) root
    or-popup = root-or-popup (surfaces_in d has.standing.client) root (root_of (owned_in d) has.standing ∷ []) (popups_in d has.standing.client) has.there

    there : list_any (is_of has.standing.client has.standing.surface) d.standing ≡ true
    there = ap₂ (λ a b. list_any (is_of a b) d.standing) (of-client c t has.standing its) (of-surface c t has.standing its) ∙ found-any (is_of c t) d.standing has.standing has.stands

    -- a root that is no popup is its own toplevel
    no-popup : popup_of c root d ≡ None → t ≡ root
    no-popup none = at or-popup
      where
        at : (In root (root_of (owned_in d) has.standing ∷ []) ≡ true) ⊎ IsOnRoot (stacked_roots d has.standing) (popups_in d has.standing.client) root → t ≡ root
        at (inl own) = sym (of-surface c t has.standing its) ∙ its-own d had has.standing there root own
        at (inr on) =
            absurd (differ (sym (none-any (has_surface root) (popups_in d c) none)
            ∙ subst (λ n. list_any (has_surface root) (popups_in d n) ≡ true) (of-client c t has.standing its) on.there))

    -- a popup's parent is stacked with it
    a-popup : (p : StackedPopup) → popup_of c root d ≡ Some p → HoldsParent c t d p
    a-popup p is = record { standing = has.standing; stands = has.stands; holds = at or-popup }
      where
        at : (In root (root_of (owned_in d) has.standing ∷ []) ≡ true) ⊎ IsOnRoot (stacked_roots d has.standing) (popups_in d has.standing.client) root
            → has_parent_in (stacked_roots d has.standing) p ≡ true
        at (inl own) =
            absurd (differ (sym (had.sound.levels has.standing.client has.standing.surface there)
            ∙ (ap₂ (λ n m. list_any (has_surface m) (popups_in d n)) (of-client c t has.standing its) (its-own d had has.standing there root own)
            ∙ found-any (has_surface root) (popups_in d c) p is)))
        at (inr on) =
            subst (λ q. has_parent_in (stacked_roots d has.standing) q ≡ true)
            (once-found root p on.popup (popups_in d c) (had.sound.popups c) (subst (λ n. IsIn on.popup (popups_in d n)) (of-client c t has.standing its) on.known) on.own is)
            (and-right on.popup.is_mapped (has_parent_in (stacked_roots d has.standing) on.popup) on.mapped)

  by-popup : (o : Option StackedPopup) → popup_of c root d ≡ o → IsStackedAs c root d o (toplevel_found c root o (all_windows d))
  by-popup None is = at (toplevel_in c root (all_windows d)) refl
    where
      at : (o : Option ℕ) → toplevel_in c root (all_windows d) ≡ o → IsStackedAs c root d None (option_or o (Some root))
      at None e = refl
      at (Some t) e = no-popup t (found root t e) is
  by-popup (Some p) is = at (toplevel_in c root (all_windows d)) refl
    where
      held : (x : ℕ) → p.parent ≡ Some x → (o : Option ℕ) → toplevel_in c x (all_windows d) ≡ o → IsStackedAs c root d (Some p) o
      held x parent None e = λ t s stands. ap (λ (o : Option ℕ). in_parent o (stacked_roots d s)) parent ∙ unstacked x e t s stands
      held x parent (Some t) e =
          let has = found x t e in
          record { standing = has.standing; stands = has.stands; holds = ap (λ (o : Option ℕ). in_parent o (stacked_roots d has.standing)) parent ∙ has.there }

      by : (o : Option ℕ) → p.parent ≡ o → IsStackedAs c root d (Some p) (option_and_then (λ parent. toplevel_in c parent (all_windows d)) o)
      by None none = λ t s stands. ap (λ (o : Option ℕ). in_parent o (stacked_roots d s)) none ∙ no-parent (stacked_roots d s)
      by (Some x) parent = held x parent (toplevel_in c x (all_windows d)) refl

      at : (o : Option ℕ) → toplevel_in c root (all_windows d) ≡ o → IsStackedAs c root d (Some p) (option_or o (toplevel_by_parent c root (Some p) (all_windows d)))
      at None e = by p.parent refl
      at (Some t) e = a-popup t (found root t e) p is

pub finds-toplevels : FindsToplevels
finds-toplevels c root d had = by-popup c root d had (popup_of c root d) refl

pub finds-toplevels-in-order : FindsToplevelsInOrder
finds-toplevels-in-order c root d order stand = finds-toplevels c root d (in-order-has-trees d order stand)
