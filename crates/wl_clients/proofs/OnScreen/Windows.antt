-- Where a step changes the windows stacked with one toplevel: what it marks, beside the windows that the client has then, lies in those that it had before and those of the
-- toplevel.
use Rattle.std.proofs.Common.{◌≡◌, ℕ, Bool, true, false, None, List, [], ◌∷◌, ◌++◌, map, ap, sym, refl, ◌∙◌, inl, inr, ◌⊎◌}
use Rattle.std.specs.Prelude.{ℤ, ◌==◌, ◌&&◌, ◌||◌, filter, if◌then◌else◌}
use Rattle.std.specs.List.{list_any}
use Rattle.std.proofs.lemmas.Bool.{and_from, eqb-true, or_left, or_right}
use Rattle.wl_scene.specs.StackedAgreement.{told_by}
use Rattle.law_desktop.proofs.Marks.Painted.{contains-same}
use Rattle.law_desktop.proofs.Marks.Stacks.{AreSame, equal-numbers, same-number}
use Rattle.spec_desktop.specs.Desktop.{Desktop}
use Rattle.spec_desktop.specs.Marks.{in_output, same_records}
use Rattle.spec_desktop.specs.Moments.{applied_between, marks_at_least, marks_at_most}
use Rattle.law_desktop.specs.Touching.{any_window_at, has_window_at}
use Rattle.wl_scene.specs.Repaint.{window_has}
use Rattle.spec_desktop.specs.Windows.{Window, contains}
use Rattle.law_desktop.specs.TreeMarksLaws.{among, is_in_any, is_struck_at}
use Rattle.law_desktop.proofs.Lists.Tests.{any-each-more, any-first, any-more, any-of, any-second, any-three, each-all}
use Rattle.law_desktop.proofs.TreeMarks.Records.{same-tested}
use Rattle.law_desktop.proofs.Truth.{and-left, and-right, differ, either-of}
use Rattle.law_desktop.proofs.Lists.Each.{Each, each-first, each-second}
use Rattle.law_desktop.proofs.Lists.Left.{any-filtered}
use Rattle.law_desktop.specs.Marked.{MarksByTreesBetween, marks_by_trees, marks_of_tree}
use Rattle.law_desktop.specs.Toplevel.{ChangesToplevel, has_toplevel, of_root}

-- one of these windows is of the client, and contains the point
abbrev pub is_own_in : ℕ → ℤ → ℤ → List Window → Bool
is_own_in c x y ws = any_window_at (λ client surface. client == c) x y ws

-- ---- lists

-- one of a list that passes, with what it is of the list
any-one : {X : Type 0} (P : Type 0) (p : X → Bool) (xs : List X) → list_any p xs ≡ true
    → ((x : X) → p x ≡ true → ((q : X → Bool) → q x ≡ true → list_any q xs ≡ true) → P) → P
any-one P p [] e f = absurd (differ e)
any-one P p (x ∷ xs) e f =
    either-of P (p x) (list_any p xs) e (λ g. f x g (λ q h. or_left (q x) (list_any q xs) h))
    (λ g. any-one P p xs g (λ z h more. f z h (λ q k. or_right (q x) (list_any q xs) (more q k))))

-- one that is left was there
any-there : {X : Type 0} (p keep : X → Bool) (xs : List X) → list_any p (filter keep xs) ≡ true → list_any p xs ≡ true
any-there p keep xs e = any-more (λ x. keep x && p x) p (λ x f. and-right (keep x) (p x) f) xs (sym (any-filtered p keep xs) ∙ e)

-- ---- windows of a toplevel

-- what is told of windows has the points that they have
pub told-has : (f : ℕ → ℕ) (ws : List Window) (x y : ℤ) → list_any (window_has x y) (map (told_by f) ws) ≡ is_in_any x y ws
told-has f [] x y = refl
told-has f (w ∷ ws) x y = ap (λ b. contains w x y || b) (told-has f ws x y)

-- windows that keep their records have the same points
same-points : (x y : ℤ) (ws vs : List Window) → AreSame ws vs → is_in_any x y ws ≡ is_in_any x y vs
same-points x y [] [] same = refl
same-points x y (w ∷ ws) (v ∷ vs) same =
    ap (λ b. b || is_in_any x y ws) (contains-same x y w v same.0) ∙ ap (λ b. contains v x y || b) (same-points x y ws vs same.1)
same-points x y [] (v ∷ vs) same = absurd same
same-points x y (w ∷ ws) [] same = absurd same

-- windows stacked with a toplevel of the client are the client's
own-if : (c toplevel : ℕ) (x y : ℤ) (ws : List Window) → Each (λ w. has_toplevel c toplevel w ≡ true) ws → is_in_any x y ws ≡ true → is_own_in c x y ws ≡ true
own-if c toplevel x y ws its here =
    any-each-more (λ w. contains w x y) (λ w. (w.owner.client == c) && contains w x y) (λ w. has_toplevel c toplevel w ≡ true)
    (λ w own inside. and_from (w.owner.client == c) (contains w x y)
    (equal-numbers w.owner.client c (sym (eqb-true c w.owner.client (and-left (c == w.owner.client) (toplevel == w.owner.toplevel) own)))) inside) ws its here

in-own : (c : ℕ) (x y : ℤ) (ws : List Window) → is_own_in c x y ws ≡ true → is_in_any x y ws ≡ true
in-own c x y ws own =
    any-more (λ (w : Window). (w.owner.client == c) && contains w x y) (λ w. contains w x y) (λ w here. and-right (w.owner.client == c) (contains w x y) here) ws own

-- ---- a step that changes those of one toplevel

module _ (between : MarksByTreesBetween) (c toplevel : ℕ) (d e : Desktop) (t : ChangesToplevel c toplevel d e) (x y : ℤ) where
  abbrev of_client : Window → Bool
  of_client w = (w.owner.client == c) && contains w x y

  its : Each (λ w. has_toplevel c toplevel w ≡ true) (t.was ++ t.is)
  its = each-all (has_toplevel c toplevel) (t.was ++ t.is) t.together

  was-own : is_in_any x y t.was ≡ true → is_own_in c x y t.was ≡ true
  was-own = own-if c toplevel x y t.was (each-first (λ w. has_toplevel c toplevel w ≡ true) t.was t.is its)

  is-own : is_in_any x y t.is ≡ true → is_own_in c x y t.is ≡ true
  is-own = own-if c toplevel x y t.is (each-second (λ w. has_toplevel c toplevel w ≡ true) t.was t.is its)

  -- the windows of the client before and after
  had : has_window_at c x y d ≡ is_own_in c x y (among t.below t.above t.was)
  had = ap (is_own_in c x y) t.before

  has : has_window_at c x y e ≡ is_own_in c x y (among t.below t.above t.is)
  has = ap (is_own_in c x y) t.after

  -- those below the toplevel's, those of it, and those above
  from-below : (ws : List Window) → is_own_in c x y t.below ≡ true → is_own_in c x y (among t.below t.above ws) ≡ true
  from-below ws here = any-first of_client t.below (ws ++ t.above) here

  from-run : (ws : List Window) → is_own_in c x y ws ≡ true → is_own_in c x y (among t.below t.above ws) ≡ true
  from-run ws here = any-second of_client t.below (ws ++ t.above) (any-first of_client ws t.above here)

  from-above : (ws : List Window) → is_own_in c x y t.above ≡ true → is_own_in c x y (among t.below t.above ws) ≡ true
  from-above ws here = any-second of_client t.below (ws ++ t.above) (any-second of_client ws t.above here)

  -- what is marked of the tree of one of its windows
  abbrev marks_tree : ℕ → Bool
  marks_tree root = marks_of_tree (applied_between d e) (of_root root t.was) (of_root root t.is) x y

  -- ---- what is marked at least

  abbrev Before : Type 0
  Before = (has_window_at c x y d || is_in_any x y t.is) ≡ true

  had-before : is_own_in c x y (among t.below t.above t.was) ≡ true → Before
  had-before here = or_left (has_window_at c x y d) _ (had ∙ here)

  in-was : is_in_any x y t.was ≡ true → Before
  in-was here = had-before (from-run t.was (was-own here))

  in-is : is_in_any x y t.is ≡ true → Before
  in-is here = or_right (has_window_at c x y d) _ here

  -- of a root's windows
  root-was : (root : ℕ) → is_in_any x y (of_root root t.was) ≡ true → Before
  root-was root here = in-was (any-there (λ w. contains w x y) (λ w. root == w.owner.root) t.was here)

  root-is : (root : ℕ) → is_in_any x y (of_root root t.is) ≡ true → Before
  root-is root here = in-is (any-there (λ w. contains w x y) (λ w. root == w.owner.root) t.is here)

  tree-marked : (root : ℕ) → marks_tree root ≡ true → Before
  tree-marked root = at (same_records (of_root root t.was) (of_root root t.is))
    where
      at : (b : Bool) → (if b then list_any (is_struck_at (applied_between d e) x y) (of_root root t.is) else is_in_any x y (of_root root t.was) || is_in_any x y (of_root root t.is)) ≡ true
          → Before
      at true marked =
          root-is root
          (any-more (is_struck_at (applied_between d e) x y) (λ w. contains w x y) (λ w struck. and-left (contains w x y) _ struck) (of_root root t.is) marked)
      at false marked =
          either-of Before (is_in_any x y (of_root root t.was)) (is_in_any x y (of_root root t.is)) marked (root-was root) (root-is root)

  marked-before : marks_at_least d e x y ≡ true → Before
  marked-before marked =
      any-of Before (λ w. marks_tree w.owner.root) (t.was ++ t.is)
      ((between c toplevel d e t None d.output.width d.output.height x y).0 marked) (λ w. tree-marked w.owner.root)

  has-before : has_window_at c x y e ≡ true → Before
  has-before there =
      any-three Before of_client t.below t.is t.above (sym has ∙ there) (λ here. had-before (from-below t.was here)) (λ here. in-is (in-own c x y t.is here))
      (λ here. had-before (from-above t.was here))

  -- What is marked at least, and the windows that the client has then, lie in those that it had and in those of the toplevel.
  pub run-before : (marks_at_least d e x y ≡ true) ⊎ (has_window_at c x y e ≡ true) → (has_window_at c x y d || is_in_any x y t.is) ≡ true
  run-before (inl marked) = marked-before marked
  run-before (inr there) = has-before there

  -- ---- what is marked at most

  abbrev After : Type 0
  After = (marks_at_most d e None x y ≡ true) ⊎ (has_window_at c x y e ≡ true)

  has-after : is_own_in c x y (among t.below t.above t.is) ≡ true → After
  has-after here = inr (has ∙ here)

  is-after : is_in_any x y t.is ≡ true → After
  is-after here = has-after (from-run t.is (is-own here))

  -- A window that the toplevel had is one of a tree that keeps its records, and has one there then, or all of that tree is marked at most.
  was-after : in_output d.output.width d.output.height x y ≡ true → is_in_any x y t.was ≡ true → After
  was-after inside here = any-one After (λ w. contains w x y) t.was here by
    where
      by : (w : Window) → contains w x y ≡ true → ((q : Window → Bool) → q w ≡ true → list_any q t.was ≡ true) → After
      by w in_it more = at (same_records (of_root w.owner.root t.was) (of_root w.owner.root t.is)) refl
        where
          in_root : is_in_any x y (of_root w.owner.root t.was) ≡ true
          in_root =
              any-filtered (λ v. contains v x y) (λ v. w.owner.root == v.owner.root) t.was
              ∙ more (λ v. (w.owner.root == v.owner.root) && contains v x y) (and_from (w.owner.root == w.owner.root) (contains w x y) (same-number w.owner.root) in_it)

          at : (b : Bool) → same_records (of_root w.owner.root t.was) (of_root w.owner.root t.is) ≡ b → After
          at true same =
              is-after
              (any-there (λ v. contains v x y) (λ v. w.owner.root == v.owner.root) t.is
              (sym (same-points x y (of_root w.owner.root t.was) (of_root w.owner.root t.is) (same-tested (of_root w.owner.root t.was) (of_root w.owner.root t.is) same)) ∙ in_root))
          at false other =
              inl
              ((between c toplevel d e t None d.output.width d.output.height x y).1
              (and_from (in_output d.output.width d.output.height x y) (marks_by_trees (applied_between d e) t.was t.is x y) inside
              (any-first (λ v. marks_tree v.owner.root) t.was t.is
              (more (λ v. marks_tree v.owner.root)
              (ap
              (λ b. if b then list_any (is_struck_at (applied_between d e) x y) (of_root w.owner.root t.is)
              else is_in_any x y (of_root w.owner.root t.was) || is_in_any x y (of_root w.owner.root t.is)) other
              ∙ or_left (is_in_any x y (of_root w.owner.root t.was)) _ in_root)))))

  had-after : in_output d.output.width d.output.height x y ≡ true → has_window_at c x y d ≡ true → After
  had-after inside there =
      any-three After of_client t.below t.was t.above (sym had ∙ there) (λ here. has-after (from-below t.is here)) (λ here. was-after inside (in-own c x y t.was here))
      (λ here. has-after (from-above t.is here))

  -- In the output those are marked at most, or are windows that the client has then.
  pub run-after : in_output d.output.width d.output.height x y ≡ true → (has_window_at c x y d || is_in_any x y t.is) ≡ true
      → (marks_at_most d e None x y ≡ true) ⊎ (has_window_at c x y e ≡ true)
  run-after inside either =
      either-of After (has_window_at c x y d) (is_in_any x y t.is) either (had-after inside) is-after
