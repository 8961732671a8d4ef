-- What loops over the windows of several trees mark on an output.
use Rattle.std.proofs.Common.{◌≡◌, ◌<◌, ◌+◌, ℕ, ℤ, pos, Bool, true, false, List, [], ◌∷◌, ◌++◌, cond, length, take, get_or, Option, Some, None, refl, ap, sym, ◌∙◌, arith}
use Rattle.std.specs.Prelude.{◌==◌, ◌&&◌, ◌||◌, filter, not}
use Rattle.std.specs.List.{list_any}
use Rattle.std.specs.Option.{option_eq}
use Rattle.std.proofs.Math.Bool.{or_assoc}
use Rattle.std.proofs.lemmas.Bool.{eqb-true, or_left, or_right}
use Rattle.std.proofs.lemmas.Bool.Decides.{nat_tests}
use Rattle.std.proofs.lemmas.List.Folds.{list_any-append, list_any_more}
use Rattle.wl_paint.specs.Damage.{Damaged, has}
use Rattle.wl_scene.specs.Marking.{AddsPoints, IsAsLarge}
use Rattle.wl_scene.specs.declared.tree_window.TreeWindow.{TreeWindow}
use Rattle.wl_scene.specs.Repaint.{is_new, tree_of}

-- Where the windows stand together, what is damaged is what was, and what is marked of the trees of these windows. The output is as large. What
-- is marked of the last tree is damaged.
pub record AreMarked (Together : Type 0) (marked : ℕ → ℤ → ℤ → Bool) (windows : List TreeWindow) (last : Option ℕ) (old new : Damaged) : Type 0 where
  pub points : Together → AddsPoints (λ x y. list_any (λ w. marked w.root x y) windows) old new
  pub sides : IsAsLarge old new
  pub known : Together → (root : ℕ) → last ≡ Some root → (x y : ℕ) → x < old.width → y < old.height → marked root (pos x) (pos y) ≡ true → has new x y ≡ true

pub or-none : (b : Bool) → b ≡ (b || false)
or-none true = refl
or-none false = refl

module _ (Together : Type 0) (marked : ℕ → ℤ → ℤ → Bool) (xs : List TreeWindow) (n : ℕ) (d : TreeWindow) (old : Damaged) (less : n < length xs) where
  more : (x y : ℕ) → list_any (λ w. marked w.root (pos x) (pos y)) (take (n + 1) xs)
      ≡ (list_any (λ w. marked w.root (pos x) (pos y)) (take n xs) || marked (get_or xs n d).root (pos x) (pos y))
  more x y = list_any_more (λ w. marked w.root (pos x) (pos y)) xs n d less

  -- a window of the last tree
  pub passed-over : (last : Option ℕ) (new : Damaged) → AreMarked Together marked (take n xs) last old new → last ≡ Some (get_or xs n d).root
      → AreMarked Together marked (take (n + 1) xs) last old new
  passed-over last new is same = record {
    points = λ t x y wide high.
        at (marked (get_or xs n d).root (pos x) (pos y)) (has old x y) (list_any (λ w. marked w.root (pos x) (pos y)) (take n xs)) (has new x y)
        (is.points t x y wide high) (is.known t (get_or xs n d).root same x y wide high)
        ∙ ap (λ b. has old x y || b) (sym (more x y));
    sides = is.sides;
    known = is.known;
  }
    where
      at : (b was some now : Bool) → now ≡ (was || some) → (b ≡ true → now ≡ true) → now ≡ (was || (some || b))
      at false was some now e f = e ∙ ap (λ c. was || c) (or-none some)
      at true true some now e f = f refl
      at true false true now e f = f refl
      at true false false now e f = f refl

  -- one of another tree
  pub marked-next : (last : Option ℕ) (was new : Damaged) → AreMarked Together marked (take n xs) last old was
      → (Together → AddsPoints (λ x y. marked (get_or xs n d).root x y) was new) → IsAsLarge was new
      → AreMarked Together marked (take (n + 1) xs) (Some (get_or xs n d).root) old new
  marked-next last was new is adds sides = record {
    points = λ t x y wide high.
        adds t x y (rw is.sides.width wide) (rw is.sides.height high)
        ∙ ap (λ b. b || marked (get_or xs n d).root (pos x) (pos y)) (is.points t x y wide high)
        ∙ or_assoc (has old x y) (list_any (λ w. marked w.root (pos x) (pos y)) (take n xs)) (marked (get_or xs n d).root (pos x) (pos y))
        ∙ ap (λ b. has old x y || b) (sym (more x y));
    sides = record { width = sides.width ∙ is.sides.width; height = sides.height ∙ is.sides.height };
    known = λ t root e x y wide high m.
        adds t x y (rw is.sides.width wide) (rw is.sides.height high)
        ∙ or_right (has was x y) (marked (get_or xs n d).root (pos x) (pos y)) (ap (λ r. marked r (pos x) (pos y)) (some-root root e) ∙ m);
  }
    where
      some-root : (root : ℕ) → Some (get_or xs n d).root ≡ Some root → (get_or xs n d).root ≡ root
      some-root root e = cc

-- ---- trees that weren't there

-- the tree of a root is empty where no window is of it
any-length : (p : TreeWindow → Bool) (ws : List TreeWindow) → (length (filter p ws) == 0) ≡ not (list_any p ws)
any-length p [] = refl
any-length p (w ∷ ws) = at (p w) (any-length p ws)
  where
    at : (b : Bool) → (length (filter p ws) == 0) ≡ not (list_any p ws) → (length (cond b (w ∷ filter p ws) (filter p ws)) == 0) ≡ not (b || list_any p ws)
    at true e = grind (arith, nat_tests)
    at false e = e

pub empty-new : (root : ℕ) (ws tree : List TreeWindow) (is_empty : Bool) → tree ≡ tree_of root ws → is_empty ≡ (length tree == 0) → is_empty ≡ is_new root ws
empty-new root ws tree is_empty same e = e ∙ ap (λ (us : List TreeWindow). length us == 0) same ∙ any-length (λ w. root == w.root) ws

-- what is marked of the trees that were there and of those that weren't is what is marked of all
pub old-and-new : (marked : ℕ → Bool) (was is : List TreeWindow)
    → (list_any (λ w. marked w.root) was || list_any (λ w. is_new w.root was && marked w.root) is) ≡ list_any (λ w. marked w.root) (was ++ is)
old-and-new marked was is = at (list_any (λ w. marked w.root) was) refl ∙ sym (list_any-append (λ w. marked w.root) was is)
  where
    same : list_any (λ w. marked w.root) was ≡ false → (w : TreeWindow) → (is_new w.root was && marked w.root) ≡ marked w.root
    same none w = by (list_any (λ u. w.root == u.root) was) refl (marked w.root) refl
      where
        by : (b : Bool) → list_any (λ u. w.root == u.root) was ≡ b → (m : Bool) → marked w.root ≡ m → (not b && m) ≡ m
        by false e m f = refl
        by true e false f = refl
        by true e true f = absurd (differ (sym none ∙ any-there was e))
          where
            differ : false ≡ true → ⊥
            differ g = absurd (cc)

            any-there : (us : List TreeWindow) → list_any (λ u. w.root == u.root) us ≡ true → list_any (λ u. marked u.root) us ≡ true
            any-there [] g = g
            any-there (u ∷ us) g = first (w.root == u.root) refl g (any-there us)
              where
                first : (c : Bool) → (w.root == u.root) ≡ c → (c || list_any (λ z. w.root == z.root) us) ≡ true
                    → (list_any (λ z. w.root == z.root) us ≡ true → list_any (λ z. marked z.root) us ≡ true) → (marked u.root || list_any (λ z. marked z.root) us) ≡ true
                first true h i more =
                    or_left (marked u.root) (list_any (λ z. marked z.root) us) (ap marked (sym (eqb-true w.root u.root h)) ∙ f)
                first false h i more = or_right (marked u.root) (list_any (λ z. marked z.root) us) (more i)

    each : list_any (λ w. marked w.root) was ≡ false → (ws : List TreeWindow)
        → list_any (λ w. is_new w.root was && marked w.root) ws ≡ list_any (λ w. marked w.root) ws
    each none [] = refl
    each none (w ∷ ws) = ap (λ b. b || list_any (λ w. is_new w.root was && marked w.root) ws) (same none w) ∙ ap (λ b. marked w.root || b) (each none ws)

    at : (a : Bool) → list_any (λ w. marked w.root) was ≡ a → (a || list_any (λ w. is_new w.root was && marked w.root) is) ≡ (a || list_any (λ w. marked w.root) is)
    at true e = refl
    at false e = each e is

-- ---- as it is written

-- the last tree is this, where it isn't another
pub same-last : (other : Bool) (last : Option ℕ) (root : ℕ) → other ≡ not (option_eq (λ m n. m == n) last (Some root)) → other ≡ false → last ≡ Some root
same-last other None root e f = absurd (cc)
same-last other (Some n) root e f = ap Some (at (n == root) refl (sym f ∙ e))
  where
    at : (b : Bool) → (n == root) ≡ b → false ≡ not b → n ≡ root
    at true h k = eqb-true n root h
    at false h k = absurd (cc)
