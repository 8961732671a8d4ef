-- The windows of the trees of dismissed popups go, tree after tree, and what is marked of them.
use Rattle.std.proofs.Common.{◌≡◌, ◌≤◌, ◌<◌, ℕ, Bool, true, false, cond, List, Option, Some, None, [], ◌∷◌, length, refl, ap, ap₂, arith, sym, subst, ◌∙◌}
use Rattle.std.specs.Prelude.{◌==◌, ◌&&◌, ◌||◌, filter, find, not, pos}
use Rattle.std.specs.List.{list_any}
use Rattle.std.specs.Option.{option_map}
use Rattle.std.proofs.lemmas.Bool.{and_from, eqb-true, true≢false}
use Rattle.law_desktop.proofs.Lists.Keys.{found-any, found-passes}
use Rattle.law_desktop.proofs.Marks.Stacks.{equal-numbers}
use Rattle.law_desktop.proofs.Truth.{and-left, and-right}
use Rattle.wl_scene.specs.Marking.{IsAsLarge}
use Rattle.wl_paint.specs.Damage.{Damaged, has}
use Rattle.wl_scene.specs.Repaint.{window_has}
use Rattle.wl_scene.specs.Stacked.{is_rooted, without_tree}
use Rattle.wl_scene.specs.declared.stacked.Stacked.{Stacked}
use Rattle.wl_shell.specs.Kept.{Book}
use Rattle.wl_clients.specs.Gone.{gone_has, is_dismissed_kept, is_gone, is_left, tree_has}

-- ---- lists of which some go

or-between : (a b c : Bool) → (a || (b || c)) ≡ (b || (a || c))
or-between true true c = refl
or-between true false c = refl
or-between false true c = refl
or-between false false c = refl

or-grouped : (a b c : Bool) → ((a || b) || c) ≡ (a || (b || c))
or-grouped true b c = refl
or-grouped false b c = refl

or-none : (a : Bool) → (a || false) ≡ a
or-none true = refl
or-none false = refl

module _ {X : Type 0} (t g : X → Bool) (within : (x : X) → t x ≡ true → g x ≡ true) where
  -- what is left once all go is left too where some of them went first
  left-on : (xs : List X) → filter (λ x. not (g x)) (filter (λ x. not (t x)) xs) ≡ filter (λ x. not (g x)) xs
  left-on [] = refl
  left-on (x ∷ xs) = at (t x) refl (left-on xs)
    where
      at : (b : Bool) → t x ≡ b → filter (λ x. not (g x)) (filter (λ x. not (t x)) xs) ≡ filter (λ x. not (g x)) xs
          → filter (λ x. not (g x)) (cond (not b) (x ∷ filter (λ x. not (t x)) xs) (filter (λ x. not (t x)) xs)) ≡ filter (λ x. not (g x)) (x ∷ xs)
      at true is later = later ∙ sym (ap (λ b. cond (not b) (x ∷ filter (λ x. not (g x)) xs) (filter (λ x. not (g x)) xs)) (within x is))
      at false is later = ap (λ ys. cond (not (g x)) (x ∷ ys) ys) later

  -- one of those that go passes where one of the first did, or one of the others that go does
  either-goes : (p : X → Bool) (xs : List X)
      → (list_any (λ x. t x && p x) xs || list_any (λ x. g x && p x) (filter (λ x. not (t x)) xs)) ≡ list_any (λ x. g x && p x) xs
  either-goes p [] = refl
  either-goes p (x ∷ xs) = at (t x) refl (either-goes p xs)
    where
      firsts : Bool
      firsts = list_any (λ x. t x && p x) xs

      rest : List X
      rest = filter (λ x. not (t x)) xs

      at : (b : Bool) → t x ≡ b → (list_any (λ x. t x && p x) xs || list_any (λ x. g x && p x) (filter (λ x. not (t x)) xs)) ≡ list_any (λ x. g x && p x) xs
          → (((b && p x) || list_any (λ x. t x && p x) xs)
          || list_any (λ x. g x && p x) (cond (not b) (x ∷ filter (λ x. not (t x)) xs) (filter (λ x. not (t x)) xs)))
          ≡ ((g x && p x) || list_any (λ x. g x && p x) xs)
      at true is later =
          or-grouped (p x) firsts (list_any (λ x. g x && p x) rest) ∙ (ap (λ b. p x || b) later ∙ sym (ap (λ b. (b && p x) || list_any (λ x. g x && p x) xs) (within x is)))
      at false is later = or-between firsts (g x && p x) (list_any (λ x. g x && p x) rest) ∙ ap (λ b. (g x && p x) || b) later

-- where none goes all are left
none-goes : {X : Type 0} (g : X → Bool) (xs : List X) → find g xs ≡ None → filter (λ x. not (g x)) xs ≡ xs
none-goes g [] none = refl
none-goes g (x ∷ xs) none = at (g x) none (none-goes g xs)
  where
    at : (b : Bool) → cond b (Some x) (find g xs) ≡ None → (find g xs ≡ None → filter (λ x. not (g x)) xs ≡ xs)
        → cond (not b) (x ∷ filter (λ x. not (g x)) xs) (filter (λ x. not (g x)) xs) ≡ x ∷ xs
    at true none later = absurd (cc)
    at false none later = ap (λ ys. x ∷ ys) (later none)

none-passes : {X : Type 0} (g p : X → Bool) (xs : List X) → find g xs ≡ None → list_any (λ x. g x && p x) xs ≡ false
none-passes g p [] none = refl
none-passes g p (x ∷ xs) none = at (g x) none (none-passes g p xs)
  where
    at : (b : Bool) → cond b (Some x) (find g xs) ≡ None → (find g xs ≡ None → list_any (λ x. g x && p x) xs ≡ false)
        → ((b && p x) || list_any (λ x. g x && p x) xs) ≡ false
    at true none later = absurd (cc)
    at false none later = later none

-- fewer are left where one goes
no-more : {X : Type 0} (k : X → Bool) (xs : List X) → length (filter k xs) ≤ length xs
no-more k [] = omega arith
no-more k (x ∷ xs) = at (k x) (no-more k xs)
  where
    at : (b : Bool) → length (filter k xs) ≤ length xs → length (cond b (x ∷ filter k xs) (filter k xs)) ≤ length (x ∷ xs)
    at true le = omega (arith, le)
    at false le = omega (arith, le)

fewer-left : {X : Type 0} (t : X → Bool) (xs : List X) → list_any t xs ≡ true → length (filter (λ x. not (t x)) xs) < length xs
fewer-left t [] some = absurd (true≢false (sym some))
fewer-left t (x ∷ xs) some = at (t x) some (fewer-left t xs) (no-more (λ x. not (t x)) xs)
  where
    at : (b : Bool) → (b || list_any t xs) ≡ true → (list_any t xs ≡ true → length (filter (λ x. not (t x)) xs) < length xs)
        → length (filter (λ x. not (t x)) xs) ≤ length xs
        → length (cond (not b) (x ∷ filter (λ x. not (t x)) xs) (filter (λ x. not (t x)) xs)) < length (x ∷ xs)
    at true some later le = omega (arith, le)
    at false some later le = let less = later some in omega (arith, less)

-- ---- one tree after another

-- So far some of those trees went: the others are left in the end as they would have been, and so are the points that are marked.
pub record GoOn (c : ℕ) (book : Book) (old new : List Stacked) (before after : Damaged) : Type 0 where
  pub left : filter (is_left c book) new ≡ filter (is_left c book) old
  pub points : (x y : ℕ) → x < before.width → y < before.height
      → (has after x y || gone_has c book (pos x) (pos y) new) ≡ (has before x y || gone_has c book (pos x) (pos y) old)
  pub sides : IsAsLarge before after

pub begins : (c : ℕ) (book : Book) (old : List Stacked) (before : Damaged) → GoOn c book old old before before
begins c book old before = record { left = refl; points = λ x y wide high. refl; sides = record { width = refl; height = refl } }

-- the tree of a window that goes
module _ (c : ℕ) (book : Book) (all : List Stacked) (s : Stacked) (found : find (is_gone c book) all ≡ Some s) (root : ℕ) (named : s.window.root ≡ root) where
  its : is_gone c book s ≡ true
  its = found-passes (is_gone c book) all s found

  own : is_rooted c root s ≡ true
  own =
      and_from (s.client == c) (s.window.root == root) (and-left (s.client == c) (is_dismissed_kept book s.window.root) its)
      (equal-numbers s.window.root root named)

  within : (v : Stacked) → is_rooted c root v ≡ true → is_gone c book v ≡ true
  within v is =
      and_from (v.client == c) (is_dismissed_kept book v.window.root) (and-left (v.client == c) (v.window.root == root) is)
      (ap (is_dismissed_kept book) (eqb-true v.window.root root (and-right (v.client == c) (v.window.root == root) is) ∙ sym named)
      ∙ and-right (s.client == c) (is_dismissed_kept book s.window.root) its)

  pub fewer : (new : List Stacked) → new ≡ without_tree c root all → length new < length all
  fewer new is =
      subst (λ (ss : List Stacked). length ss < length all) (sym is)
      (fewer-left (is_rooted c root) all (found-any (is_gone c book) (is_rooted c root) all s found own))

  pub goes-next : (old new : List Stacked) (before mid after : Damaged) → GoOn c book old all before mid → new ≡ without_tree c root all
      → ((x y : ℕ) → x < mid.width → y < mid.height → has after x y ≡ (has mid x y || tree_has c root (pos x) (pos y) all)) → IsAsLarge mid after
      → GoOn c book old new before after
  goes-next old new before mid after so is marks large = record {
    left = ap (filter (is_left c book)) is ∙ (left-on (is_rooted c root) (is_gone c book) within all ∙ so.left);
    points = λ x y wide high.
        ap₂ (λ a b. a || b) (marks x y (subst (λ n. x < n) (sym so.sides.width) wide) (subst (λ n. y < n) (sym so.sides.height) high))
        (ap (gone_has c book (pos x) (pos y)) is)
        ∙ (or-grouped (has mid x y) (tree_has c root (pos x) (pos y) all) (gone_has c book (pos x) (pos y) (without_tree c root all))
        ∙ (ap (λ b. has mid x y || b) (either-goes (is_rooted c root) (is_gone c book) within (λ v. window_has (pos x) (pos y) v.window) all)
        ∙ so.points x y wide high));
    sides = record { width = large.width ∙ so.sides.width; height = large.height ∙ so.sides.height };
  }

-- all of them went
module _ (c : ℕ) (book : Book) (old new : List Stacked) (before after : Damaged) (so : GoOn c book old new before after) (none : find (is_gone c book) new ≡ None) where
  pub ends-left : new ≡ filter (is_left c book) old
  ends-left = sym (none-goes (is_gone c book) new none) ∙ so.left

  pub ends-marked : (x y : ℕ) → x < before.width → y < before.height → has after x y ≡ (has before x y || gone_has c book (pos x) (pos y) old)
  ends-marked x y wide high =
      sym (ap (λ b. has after x y || b) (none-passes (is_gone c book) (λ v. window_has (pos x) (pos y) v.window) new none) ∙ or-none (has after x y))
      ∙ so.points x y wide high

-- the root of the first that goes is told
told-of : (c : ℕ) (book : Book) (seen all : List Stacked) → seen ≡ all → (result : Option ℕ) → result ≡ option_map (λ (s : Stacked). s.window.root) (find (is_gone c book) seen)
    → (told : Option ℕ) → result ≡ told → option_map (λ (s : Stacked). s.window.root) (find (is_gone c book) all) ≡ told
told-of c book seen all same result is told e =
    ap (λ (ss : List Stacked). option_map (λ (s : Stacked). s.window.root) (find (is_gone c book) ss)) (sym same) ∙ (sym is ∙ e)

pub none-told : (c : ℕ) (book : Book) (seen all : List Stacked) → seen ≡ all → (result : Option ℕ)
    → result ≡ option_map (λ (s : Stacked). s.window.root) (find (is_gone c book) seen) → result ≡ None → find (is_gone c book) all ≡ None
none-told c book seen all same result is e = at (find (is_gone c book) all) (told-of c book seen all same result is None e)
  where
    at : (o : Option Stacked) → option_map (λ (s : Stacked). s.window.root) o ≡ None → o ≡ None
    at None told = refl
    at (Some s) told = absurd (cc)

pub one-told : (c : ℕ) (book : Book) (seen all : List Stacked) → seen ≡ all → (result : Option ℕ)
    → result ≡ option_map (λ (s : Stacked). s.window.root) (find (is_gone c book) seen) → (root : ℕ) → result ≡ Some root
    → (s : Stacked) × (find (is_gone c book) all ≡ Some s) × (s.window.root ≡ root)
one-told c book seen all same result is root e = at (find (is_gone c book) all) (told-of c book seen all same result is (Some root) e)
  where
    at : (o : Option Stacked) → option_map (λ (s : Stacked). s.window.root) o ≡ Some root → (s : Stacked) × (o ≡ Some s) × (s.window.root ≡ root)
    at None told = absurd (cc)
    at (Some s) told = (s, refl, cc)
