-- Two windows of which one moved past the other are of one tree, whose records differ.
use Rattle.std.proofs.Common.{◌≡◌, ℕ, Bool, true, false, List, [], ◌∷◌, ◌++◌, refl, ap, sym, subst, ◌∙◌}
use Rattle.std.specs.Prelude.{ℤ, ◌==◌, ◌&&◌, ◌||◌}
use Rattle.std.specs.List.{All, list_any}
use Rattle.std.proofs.lemmas.Bool.{eqb-true, false_from_ne_true, or_left, or_right}
use Rattle.std.proofs.lemmas.List.Elements.{recursion_from_All}
use Rattle.spec_desktop.specs.Windows.{Window, contains}
use Rattle.spec_desktop.specs.Marks.{AreDistinct, is_before, is_same_surface, same_records, shared_by}
use Rattle.law_desktop.proofs.Marks.Stacks.{before-there, surface-as}
use Rattle.law_desktop.specs.TreeMarksLaws.{among, is_in_any}
use Rattle.law_desktop.proofs.Lists.Tests.{any-more, any-second, any-three, none-first}
use Rattle.law_desktop.proofs.TreeMarks.Records.{apart-first, apart-second, before-first, before-in-first, before-in-second, before-same, before-second, distinct-second, one-before, same-tested}
use Rattle.law_desktop.specs.Toplevel.{AreInTurn, SameRoot, of_root}
use Rattle.law_desktop.proofs.Lists.Left.{any-each-of, any-left, each-recursive}
use Rattle.law_desktop.proofs.MarkedOrder.{IsRooted, before-left, lower-there, own-left, uncrossed}
use Rattle.law_desktop.proofs.Truth.{and-left, and-right, either-of}
use Rattle.law_desktop.proofs.Lists.Each.{Each, each-both, each-map}

-- ---- where they stand

module _ (below above was is : List Window) (distinct : AreDistinct (among below above was)) (distinct' : AreDistinct (among below above is)) (w v : Window)
    (before : is_before w v (among below above was) ≡ true) (after : is_before v w (among below above is) ≡ true) where
  -- what stands before one of those below is below, in the same order in both lists
  not-below : list_any (is_same_surface w) below ≡ true → ⊥
  not-below there =
      one-before w v (among below above was) distinct before
      (before-first v w below (was ++ above) (before-in-first v w below (is ++ above) (apart-second w below (is ++ above) distinct' there) after))

  -- what stands after one of those above is above, in the same order in both lists
  not-above : list_any (is_same_surface w) above ≡ true → ⊥
  not-above there =
      let upper = any-second (is_same_surface w) was above there in
      let second = before-in-second w v below (was ++ above) (apart-first w below (was ++ above) distinct upper) before in
      let third = before-in-second w v was above (apart-first w was above (distinct-second below (was ++ above) distinct) there) second in
      one-before w v (among below above is) distinct' (before-second w v below (is ++ above) (before-second w v is above third)) after

  under : list_any (is_same_surface w) below ≡ false
  under = false_from_ne_true (list_any (is_same_surface w) below) not-below

  over : list_any (is_same_surface w) above ≡ false
  over = false_from_ne_true (list_any (is_same_surface w) above) not-above

  -- a window of the first surface is one of those between
  between : (p : Window → Bool) → ((a : Window) → p a ≡ true → is_same_surface w a ≡ true) → (ws : List Window) → list_any p (among below above ws) ≡ true
      → list_any p ws ≡ true
  between p own ws there =
      any-three (list_any p ws ≡ true) p below ws above there (λ e. absurd (not-below (any-more p (is_same_surface w) own below e))) (λ e. e)
      (λ e. absurd (not-above (any-more p (is_same_surface w) own above e)))

  there-before : list_any (is_same_surface w) was ≡ true
  there-before = between (is_same_surface w) (λ a e. e) was (lower-there w v (among below above was) before)

  there-after : list_any (is_same_surface w) is ≡ true
  there-after = between (is_same_surface w) (λ a e. e) is (before-there v w (among below above is) after)

-- one before the other between those below and those above
before-between : (below above ws : List Window) (w v : Window) → list_any (is_same_surface w) below ≡ false → list_any (is_same_surface v) above ≡ false
    → is_before w v (among below above ws) ≡ true → is_before w v ws ≡ true
before-between below above ws w v under over before =
    before-in-first w v ws above over (before-in-second w v below (ws ++ above) under before)

distinct-first : (xs ys : List Window) → AreDistinct (xs ++ ys) → AreDistinct xs
distinct-first [] ys apart = tt
distinct-first (x ∷ xs) ys apart = (none-first (is_same_surface x) xs ys apart.0, distinct-first xs ys apart.1)

-- ---- of which trees they are

-- the root of the trees that windows of a surface are of
record Rooted (w : Window) (was is : List Window) : Type 0 where
  root : ℕ
  in_was : IsRooted w root was
  in_is : IsRooted w root is

rooted : (w : Window) (was is : List Window) → All (λ i. All (SameRoot i) was) is → list_any (is_same_surface w) was ≡ true
    → list_any (is_same_surface w) is ≡ true → Rooted w was is
rooted w was is roots there here = any-each-of (Rooted w was is) (is_same_surface w) (λ i. Each (SameRoot i) was) is here each whole
  where
    each : Each (λ i. Each (SameRoot i) was) is
    each =
        each-map (λ i. All (SameRoot i) was) (λ i. Each (SameRoot i) was) (λ i a. each-recursive (SameRoot i) was (recursion_from_All (SameRoot i) was a)) is
        (each-recursive (λ i. All (SameRoot i) was) is (recursion_from_All (λ i. All (SameRoot i) was) is roots))

    before : (i : Window) → is_same_surface w i ≡ true → Each (SameRoot i) was → IsRooted w i.owner.root was
    before i own same =
        each-map (SameRoot i) (λ u. is_same_surface w u ≡ true → u.owner.root ≡ i.owner.root) (λ u f e. sym (f (surface-as w i u own e))) was same

    whole : (i : Window) → is_same_surface w i ≡ true → Each (SameRoot i) was → Rooted w was is
    whole i own same = record {
      root = i.owner.root;
      in_was = before i own same;
      in_is =
          each-map (λ j. Each (SameRoot j) was) (λ j. is_same_surface w j ≡ true → j.owner.root ≡ i.owner.root)
          (λ j others e.
          any-each-of (j.owner.root ≡ i.owner.root) (is_same_surface w) (λ z. (is_same_surface w z ≡ true → z.owner.root ≡ i.owner.root) × SameRoot j z) was there
          (each-both (λ z. is_same_surface w z ≡ true → z.owner.root ≡ i.owner.root) (SameRoot j)
          (λ z. (is_same_surface w z ≡ true → z.owner.root ≡ i.owner.root) × SameRoot j z) (λ z f g. (f, g)) was (before i own same) others)
          (λ z g both. both.1 (surface-as w j z e g) ∙ both.0 g)) is each;
    }

-- ---- the tree of both

-- a window of the surface that holds the point is one of the tree
held-in-tree : (w : Window) (root : ℕ) (ws : List Window) (x y : ℤ) → IsRooted w root ws → list_any (λ a. is_same_surface w a && contains a x y) ws ≡ true
    → is_in_any x y (of_root root ws) ≡ true
held-in-tree w root ws x y of-tree there =
    any-more (λ a. is_same_surface w a && contains a x y) (λ a. contains a x y) (λ a e. and-right (is_same_surface w a) (contains a x y) e) (of_root root ws)
    (any-left (λ a. is_same_surface w a && contains a x y) (λ a. root == a.owner.root) ws
    (each-map (λ a. is_same_surface w a ≡ true → (root == a.owner.root) ≡ true) (λ a. (is_same_surface w a && contains a x y) ≡ true → (root == a.owner.root) ≡ true)
    (λ a f e. f (and-left (is_same_surface w a) (contains a x y) e)) ws (own-left w root ws of-tree))
    ∙ there)

-- The tree's records differ, and one of its windows holds the point, before or after.
pub record Differs (was is : List Window) (x y : ℤ) : Type 0 where
  pub root : ℕ
  pub records : same_records (of_root root was) (of_root root is) ≡ false
  pub held : (is_in_any x y (of_root root was) || is_in_any x y (of_root root is)) ≡ true

module _ (below above was is : List Window) (distinct : AreDistinct (among below above was)) (distinct' : AreDistinct (among below above is))
    (same-roots : All (λ i. All (SameRoot i) was) is) (roots : List ℕ) (was-turn : AreInTurn roots was) (is-turn : AreInTurn roots is) where
  abbrev old : List Window
  old = among below above was

  abbrev new : List Window
  new = among below above is

  distinct-was : AreDistinct was
  distinct-was = distinct-first was above (distinct-second below (was ++ above) distinct)

  distinct-is : AreDistinct is
  distinct-is = distinct-first is above (distinct-second below (is ++ above) distinct')

  module _ (w v : Window) (before : is_before w v old ≡ true) (after : is_before v w new ≡ true) where
    w-was : list_any (is_same_surface w) was ≡ true
    w-was = there-before below above was is distinct distinct' w v before after

    w-is : list_any (is_same_surface w) is ≡ true
    w-is = there-after below above was is distinct distinct' w v before after

    v-was : list_any (is_same_surface v) was ≡ true
    v-was = there-after below above is was distinct' distinct v w after before

    v-is : list_any (is_same_surface v) is ≡ true
    v-is = there-before below above is was distinct' distinct v w after before

    w-before : is_before w v was ≡ true
    w-before =
        before-between below above was w v (under below above was is distinct distinct' w v before after)
        (over below above is was distinct' distinct v w after before) before

    v-before : is_before v w is ≡ true
    v-before =
        before-between below above is v w (under below above is was distinct' distinct v w after before)
        (over below above was is distinct distinct' w v before after) after

    one-root : (first : Rooted w was is) (second : Rooted v was is) → (first.root == second.root) ≡ true
    one-root first second = at (first.root == second.root) refl
      where
        at : (b : Bool) → (first.root == second.root) ≡ b → b ≡ true
        at true e = refl
        at false e =
            absurd (uncrossed w v first.root second.root was is e first.in_was second.in_was first.in_is second.in_is v-was w-is roots
            (subst AreDistinct was-turn distinct-was) (subst AreDistinct is-turn distinct-is)
            (ap (is_before w v) (sym was-turn) ∙ w-before) (ap (is_before v w) (sym is-turn) ∙ v-before))

    -- the records of the tree of both differ, since they stand in another order
    differ-so : (root : ℕ) → IsRooted w root was → IsRooted v root was → IsRooted w root is → IsRooted v root is
        → same_records (of_root root was) (of_root root is) ≡ false
    differ-so root a b c d =
        false_from_ne_true (same_records (of_root root was) (of_root root is))
        (λ same.
        one-before w v is distinct-is
        (sym (before-left w v (λ u. root == u.owner.root) is (own-left w root is c) (own-left v root is d))
        ∙ sym (before-same w v (of_root root was) (of_root root is) (same-tested (of_root root was) (of_root root is) same))
        ∙ before-left w v (λ u. root == u.owner.root) was (own-left w root was a) (own-left v root was b) ∙ w-before) v-before)

    pub restacked-differs : (x y : ℤ) → (shared_by old w v x y || shared_by new w v x y) ≡ true → Differs was is x y
    restacked-differs x y shares =
        let first = rooted w was is same-roots w-was w-is in
        let second = rooted v was is same-roots v-was v-is in
        let one = eqb-true first.root second.root (one-root first second) in
        record {
          root = first.root;
          records = differ-so first.root first.in_was (subst (λ n. IsRooted v n was) (sym one) second.in_was) first.in_is
              (subst (λ n. IsRooted v n is) (sym one) second.in_is);
          held = either-of ((is_in_any x y (of_root first.root was) || is_in_any x y (of_root first.root is)) ≡ true) (shared_by old w v x y)
              (shared_by new w v x y) shares
              (λ e. or_left (is_in_any x y (of_root first.root was)) (is_in_any x y (of_root first.root is))
              (held-in-tree w first.root was x y first.in_was (inside was e)))
              (λ e. or_right (is_in_any x y (of_root first.root was)) (is_in_any x y (of_root first.root is))
              (held-in-tree w first.root is x y first.in_is (inside is e)));
        }
      where
        inside : (ws : List Window) → shared_by (among below above ws) w v x y ≡ true → list_any (λ a. is_same_surface w a && contains a x y) ws ≡ true
        inside ws e =
            between below above was is distinct distinct' w v before after (λ a. is_same_surface w a && contains a x y)
            (λ a f. and-left (is_same_surface w a) (contains a x y) f) ws
            (and-left (list_any (λ a. is_same_surface w a && contains a x y) (among below above ws)) _ e)
