-- What a press may mark that raises a toplevel: the points of the windows that are stacked with it.
use Rattle.std.proofs.Common.{◌≡◌, ℕ, Bool, true, false, List, [], ◌∷◌, ◌++◌, Some, refl, ap, ap₂, subst, sym, ◌∙◌}
use Rattle.std.specs.Prelude.{ℤ, ◌==◌, ◌&&◌, ◌||◌, cond, filter, find, not}
use Rattle.std.specs.List.{list_any}
use Rattle.std.proofs.lemmas.Bool.{and_from, eqb-true, false_from_ne_true}
use Rattle.std.proofs.lemmas.List.{append-nil}
use Rattle.std.proofs.lemmas.List.Elements.{filter-append}
use Rattle.std.proofs.lemmas.List.Folds.{list_any-append}
use Rattle.spec_desktop.specs.Stacking.{Standing, is_of, raised, root_of}
use Rattle.spec_desktop.specs.Windows.{Owner, Root, Window, contains, owner_of, roots_of}
use Rattle.spec_desktop.specs.Desktop.{Desktop, owned_in}
use Rattle.spec_desktop.specs.Marks.{at_least, has_changed_tree, in_output, is_allowed_at, is_of_tree, is_raised, same_records}
use Rattle.spec_desktop.specs.Moments.{applied_between, marks_at_least, marks_at_most}
use Rattle.spec_desktop.specs.Stacked.{all_windows}
use Rattle.law_desktop.specs.Soundness.{IsSound, has_surface}
use Rattle.law_desktop.proofs.Lists.Standings.{of-client, of-surface}
use Rattle.law_desktop.proofs.Marks.Stacks.{equal-numbers, same-number}
use Rattle.law_desktop.proofs.Soundness.Trees.{all-there, each-flat}
use Rattle.law_desktop.proofs.Soundness.Windows.{In, same_root, sound_is_distinct}
use Rattle.law_desktop.proofs.Lists.Tests.{any-each-more, any-more}
use Rattle.law_desktop.proofs.TreeMarks.Records.{records-self}
use Rattle.law_desktop.proofs.TreeSteps.Owners.{tree-owned}
use Rattle.law_desktop.specs.StackedWith.{stacked_roots}
use Rattle.law_desktop.specs.Toplevel.{has_toplevel}
use Rattle.law_desktop.proofs.RootsOf.Away.{toplevels-away}
use Rattle.law_desktop.proofs.RootsOf.Kept.{IsRoot, are-roots, popups_in, shown, shown_of, surfaces_in, tree_in}
use Rattle.law_desktop.proofs.RootsOf.Stacked.{all-found, found-any}
use Rattle.law_desktop.proofs.Truth.{and-left, and-right, differ, either-of}
use Rattle.law_desktop.proofs.Lists.Each.{Each, each-append, each-both, each-map}
use Rattle.law_desktop.proofs.Lists.Left.{any-filtered}
use Rattle.law_desktop.proofs.Lists.Keys.{found-passes}
use Rattle.law_windows.specs.Runs.Moves.{IsWhole, lifted}
use Rattle.law_windows.proofs.OneToplevel.Shifted.{raises-lift-runs}
use Rattle.wl_clients.proofs.OnScreen.Raised.{least-passing}
use Rattle.wl_clients.proofs.OnScreen.Standings.{undamaged-still}

-- ---- lists of which those that pass a test come last

-- what is left was there
any-left : {X : Type 0} (keep p : X → Bool) (xs : List X) → list_any p (filter keep xs) ≡ true → list_any p xs ≡ true
any-left keep p xs e = any-more (λ x. keep x && p x) p (λ x f. and-right (keep x) (p x) f) xs (sym (any-filtered p keep xs) ∙ e)

-- of those that pass one test all pass the other, or none does
module _ {X : Type 0} (p : X → Bool) where
  all-left : (f : X → Bool) (xs : List X) → Each (λ x. p x ≡ true → f x ≡ true) xs → filter p (filter f xs) ≡ filter p xs
  all-left f [] each = refl
  all-left f (x ∷ xs) each = at (f x) (p x) refl each.0 (all-left f xs each.1)
    where
      at : (b c : Bool) → p x ≡ c → (p x ≡ true → b ≡ true) → filter p (filter f xs) ≡ filter p xs
          → filter p (cond b (x ∷ filter f xs) (filter f xs)) ≡ cond c (x ∷ filter p xs) (filter p xs)
      at true true e so more = ap (λ a. cond a (x ∷ filter p (filter f xs)) (filter p (filter f xs))) e ∙ ap (λ ys. x ∷ ys) more
      at true false e so more = ap (λ a. cond a (x ∷ filter p (filter f xs)) (filter p (filter f xs))) e ∙ more
      at false true e so more = absurd (differ (so e))
      at false false e so more = more

  none-left : (f : X → Bool) (xs : List X) → Each (λ x. p x ≡ true → f x ≡ false) xs → filter p (filter f xs) ≡ []
  none-left f [] each = refl
  none-left f (x ∷ xs) each = at (f x) refl each.0 (none-left f xs each.1)
    where
      at : (b : Bool) → f x ≡ b → (p x ≡ true → f x ≡ false) → filter p (filter f xs) ≡ [] → filter p (cond b (x ∷ filter f xs) (filter f xs)) ≡ []
      at true e so more =
          ap (λ a. cond a (x ∷ filter p (filter f xs)) (filter p (filter f xs))) (false_from_ne_true (p x) (λ is. differ (sym (so is) ∙ e))) ∙ more
      at false e so more = more

  passed-same : (q : X → Bool) (b : Bool) (xs : List X) → Each (λ x. p x ≡ true → q x ≡ b) xs → filter p (filter (λ x. not (q x)) xs ++ filter q xs) ≡ filter p xs
  passed-same q true xs each =
      filter-append p (filter (λ x. not (q x)) xs) (filter q xs)
      ∙ ap₂ (λ (ys zs : List X). ys ++ zs)
      (none-left (λ x. not (q x)) xs (each-map (λ x. p x ≡ true → q x ≡ true) (λ x. p x ≡ true → not (q x) ≡ false) (λ x so is. ap not (so is)) xs each))
      (all-left q xs each)
  passed-same q false xs each =
      filter-append p (filter (λ x. not (q x)) xs) (filter q xs)
      ∙ ap₂ (λ (ys zs : List X). ys ++ zs)
      (all-left (λ x. not (q x)) xs (each-map (λ x. p x ≡ true → q x ≡ false) (λ x. p x ≡ true → not (q x) ≡ true) (λ x so is. ap not (so is)) xs each))
      (none-left q xs each)
      ∙ append-nil (filter p xs)

-- ---- the windows of one tree are stacked with one toplevel

-- A toplevel of this surface stands, and the root is stacked with it.
record HasRoot (d : Desktop) (c root toplevel : ℕ) : Type 0 where
  standing : Standing
  stands : find (is_of c toplevel) d.standing ≡ Some standing
  there : In root (stacked_roots d standing) ≡ true

abbrev IsRooted : Desktop → Window → Type 0
IsRooted d w = HasRoot d w.owner.client w.owner.root w.owner.toplevel

rooted-one : (d : Desktop) (s : Standing) → find (is_of s.client s.surface) d.standing ≡ Some s → Each (IsRooted d) (shown d s)
rooted-one d s found =
    each-flat (IsRooted d) (tree_in d) (stacked_roots d s)
    (each-both (IsRoot s) (λ r. In r.surface (stacked_roots d s) ≡ true) (λ r. Each (IsRooted d) (tree_in d r))
    (λ r is there.
    each-map (λ w. w.owner ≡ owner_of r) (IsRooted d)
    (λ w of. record {
      standing = s;
      stands = ap (λ (o : Owner). find (is_of o.client o.toplevel) d.standing) of ∙ (ap₂ (λ a b. find (is_of a b) d.standing) is.client is.toplevel ∙ found);
      there = ap (λ (o : Owner). In o.root (stacked_roots d s)) of ∙ there;
    })
    (tree_in d r) (tree-owned 17 (owner_of r) (surfaces_in d r.client) r.surface r.place))
    (stacked_roots d s) (are-roots d s) (all-there same_root (λ r. same-number r.surface) (stacked_roots d s)))

rooted-all : (d : Desktop) (ss : List Standing) → Each (λ s. find (is_of s.client s.surface) d.standing ≡ Some s) ss → Each (IsRooted d) (shown_of d ss)
rooted-all d [] found = tt
rooted-all d (s ∷ ss) found = each-append (IsRooted d) (shown d s) (shown_of d ss) (rooted-one d s found.0) (rooted-all d ss found.1)

-- the roots of a toplevel of this client
abbrev roots_at : ℕ → Desktop → Standing → List Root
roots_at c d s = roots_of (surfaces_in d c) (root_of (owned_in d) s) (popups_in d c)

module _ (d : Desktop) (sound : IsSound d) (c root : ℕ) where
  no-popup : (t : ℕ) (s : Standing) → find (is_of c t) d.standing ≡ Some s → list_any (has_surface s.surface) (popups_in d c) ≡ false
  no-popup t s found =
      sound.levels c s.surface
      (subst (λ n. list_any (is_of c n) d.standing ≡ true) (sym (of-surface c t s (found-passes (is_of c t) d.standing s found))) (found-any (is_of c t) d.standing s found))

  one-toplevel : (t u : ℕ) → HasRoot d c root t → HasRoot d c root u → t ≡ u
  one-toplevel t u a b = at (t == u) refl
    where
      its : is_of c t a.standing ≡ true
      its = found-passes (is_of c t) d.standing a.standing a.stands

      others : is_of c u b.standing ≡ true
      others = found-passes (is_of c u) d.standing b.standing b.stands

      at : (same : Bool) → (t == u) ≡ same → t ≡ u
      at true e = eqb-true t u e
      at false e =
          absurd
          (toplevels-away (surfaces_in d c) (root_of (owned_in d) a.standing) (root_of (owned_in d) b.standing) (popups_in d c)
          (λ same. differ (sym e ∙ equal-numbers t u (sym (of-surface c t a.standing its) ∙ same ∙ of-surface c u b.standing others)))
          (no-popup t a.standing a.stands) (no-popup u b.standing b.stands) (sound.popups c) root
          (subst (λ n. In root (roots_at n d a.standing) ≡ true) (of-client c t a.standing its) a.there)
          (subst (λ n. In root (roots_at n d b.standing) ≡ true) (of-client c u b.standing others) b.there))

-- ---- a toplevel is raised, and nothing else changes

module _ (c t : ℕ) (d : Desktop) (whole : IsWhole d) where
  abbrev ws : List Window
  ws = all_windows d

  abbrev up : Desktop
  up = lifted c t d

  abbrev its : Window → Bool
  its w = has_toplevel c t w

  parts : all_windows (lifted c t d) ≡ filter (λ w. not (has_toplevel c t w)) (all_windows d) ++ filter (λ w. has_toplevel c t w) (all_windows d)
  parts = raises-lift-runs c t d whole.trees

  rooted : Each (IsRooted d) (all_windows d)
  rooted = rooted-all d d.standing (all-found d.standing whole.trees.sound.apart)

  of-tree : (w v : Window) → IsRooted d w → IsRooted d v → is_of_tree w v ≡ true → has_toplevel c t v ≡ has_toplevel c t w
  of-tree w v a b same =
      let client : w.owner.client ≡ v.owner.client = eqb-true w.owner.client v.owner.client (and-left (w.owner.client == v.owner.client) (w.owner.root == v.owner.root) same) in
      let root : w.owner.root ≡ v.owner.root = eqb-true w.owner.root v.owner.root (and-right (w.owner.client == v.owner.client) (w.owner.root == v.owner.root) same) in
      let toplevel : w.owner.toplevel ≡ v.owner.toplevel =
      one-toplevel d whole.trees.sound w.owner.client w.owner.root w.owner.toplevel v.owner.toplevel a
      (subst (λ n. HasRoot d n w.owner.root v.owner.toplevel) (sym client) (subst (λ r. HasRoot d v.owner.client r v.owner.toplevel) (sym root) b)) in
      ap₂ (λ n m. (c == n) && (t == m)) (sym client) (sym toplevel)

  -- each tree keeps its windows
  tree-unchanged : (w : Window) → IsRooted d w → has_changed_tree (all_windows d) (all_windows (lifted c t d)) w ≡ false
  tree-unchanged w a =
      ap (λ (vs : List Window). not (same_records (filter (is_of_tree w) (all_windows d)) vs))
      (ap (filter (is_of_tree w)) parts
      ∙ passed-same (is_of_tree w) (λ v. has_toplevel c t v) (has_toplevel c t w) (all_windows d)
      (each-map (IsRooted d) (λ v. is_of_tree w v ≡ true → has_toplevel c t v ≡ has_toplevel c t w) (λ v b same. of-tree w v a b same) (all_windows d) rooted))
      ∙ ap (λ b. not b) (records-self (filter (is_of_tree w) (all_windows d)))

  -- a window that may be marked is its own
  module _ (x y : ℤ) where
    abbrev is_its : Window → Bool
    is_its w = contains w x y && has_toplevel c t w

    allowed-its : (w : Window) → IsRooted d w → is_allowed_at (all_windows d) (all_windows (lifted c t d)) (Some (c, t)) x y w ≡ true → is_its w ≡ true
    allowed-its w a e =
        let raised : is_raised (Some (c, t)) w ≡ true =
        sym (ap (λ b. b || is_raised (Some (c, t)) w) (tree-unchanged w a)) ∙ and-right (contains w x y) (has_changed_tree ws (all_windows up) w || is_raised (Some (c, t)) w) e in
        and_from (contains w x y) (has_toplevel c t w) (and-left (contains w x y) (has_changed_tree ws (all_windows up) w || is_raised (Some (c, t)) w) e)
        (and_from (c == w.owner.client) (t == w.owner.toplevel)
        (equal-numbers c w.owner.client (sym (eqb-true w.owner.client c (and-left (w.owner.client == c) (w.owner.toplevel == t) raised))))
        (equal-numbers t w.owner.toplevel (sym (eqb-true w.owner.toplevel t (and-right (w.owner.client == c) (w.owner.toplevel == t) raised)))))

    any-allowed : list_any (is_allowed_at (all_windows d) (all_windows (lifted c t d)) (Some (c, t)) x y) (all_windows d) ≡ true
        → list_any (λ w. contains w x y && has_toplevel c t w) (all_windows d) ≡ true
    any-allowed e = any-each-more (is_allowed_at ws (all_windows up) (Some (c, t)) x y) is_its (IsRooted d) allowed-its (all_windows d) rooted e

    -- the same windows are there before it
    from-up : (p : Window → Bool) → list_any p (all_windows (lifted c t d)) ≡ true → list_any p (all_windows d) ≡ true
    from-up p any =
        either-of (list_any p (all_windows d) ≡ true) (list_any p (filter (λ w. not (has_toplevel c t w)) (all_windows d))) (list_any p (filter (λ w. has_toplevel c t w) (all_windows d)))
        (sym (ap (list_any p) parts ∙ list_any-append p (filter (λ w. not (has_toplevel c t w)) (all_windows d)) (filter (λ w. has_toplevel c t w) (all_windows d))) ∙ any)
        (any-left (λ w. not (has_toplevel c t w)) p (all_windows d)) (any-left (λ w. has_toplevel c t w) p (all_windows d))

    passing : marks_at_least d (lifted c t d) x y ≡ true → list_any (λ w. contains w x y && has_toplevel c t w) (all_windows d) ≡ true
    passing least =
        let held =
        least-passing (λ w. has_toplevel c t w) (all_windows d) x y (sound_is_distinct d whole.trees.sound) (applied_between d (lifted c t d))
        (undamaged-still d (raised c t d.standing) (all_windows d)) d.output.width d.output.height
        (sym (ap (λ (vs : List Window). at_least d.output.width d.output.height (applied_between d (lifted c t d)) (all_windows d) vs x y) parts) ∙ least) in
        any-more (λ w. has_toplevel c t w && contains w x y) (λ w. contains w x y && has_toplevel c t w)
        (λ w both. and_from (contains w x y) (has_toplevel c t w) (and-right (has_toplevel c t w) (contains w x y) both) (and-left (has_toplevel c t w) (contains w x y) both))
        (all_windows d) (sym (any-filtered (λ w. contains w x y) (λ w. has_toplevel c t w) (all_windows d)) ∙ held)

    abbrev inside : Bool
    inside = in_output d.output.width d.output.height x y

    abbrev allowed : Window → Bool
    allowed w = is_allowed_at (all_windows d) (all_windows (lifted c t d)) (Some (c, t)) x y w

    -- What may be marked are points of its windows.
    pub raised-within : marks_at_most d (lifted c t d) (Some (c, t)) x y ≡ true
        → (in_output d.output.width d.output.height x y && list_any (λ w. contains w x y && has_toplevel c t w) (all_windows d)) ≡ true
    raised-within marked =
        either-of ((in_output d.output.width d.output.height x y && list_any is_its (all_windows d)) ≡ true) (marks_at_least d (lifted c t d) x y)
        (in_output d.output.width d.output.height x y && (list_any allowed (all_windows d) || list_any allowed (all_windows (lifted c t d)))) marked
        (λ least. and_from inside (list_any is_its (all_windows d)) (and-left inside _ least) (passing least))
        (λ more. and_from inside (list_any is_its (all_windows d)) (and-left inside _ more)
        (either-of (list_any is_its (all_windows d) ≡ true) (list_any allowed (all_windows d)) (list_any allowed (all_windows (lifted c t d))) (and-right inside _ more)
        any-allowed (λ later. any-allowed (from-up allowed later))))
