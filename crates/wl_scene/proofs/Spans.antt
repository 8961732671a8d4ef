-- Spans of surfaces on an output, and the damage that windows have there.
use Rattle.std.proofs.Common.{◌≡◌, ◌≤◌, ◌<◌, ◌+◌, ℕ, ℤ, pos, Bool, true, false, List, cond, get_or, length, take, refl, ap, sym, ◌∙◌, arith}
use Rattle.std.specs.Prelude.{◌+ℤ◌, ◌-ℤ◌, ◌&&◌, ◌||◌, int_le, int_lt, nat_lt, unsigned_abs}
use Rattle.std.specs.List.{list_any}
use Rattle.std.proofs.lemmas.Bool.Decides.{nat_tests}
use Rattle.std.proofs.lemmas.Int.{ints}
use Rattle.std.proofs.lemmas.List.Folds.{list_any_more}
use Rattle.wl_geom.specs.declared.rect.Rect.{Rect}
use Rattle.wl_geom.specs.Rect.{in_rect, in_span}
use Rattle.wl_surface.specs.State.{is_damaged}
use Rattle.wl_paint.specs.Damage.{Damaged, has}
use Rattle.wl_scene.specs.Marking.{AddsPoints, IsAsLarge}
use Rattle.wl_scene.specs.Repaint.{is_window_damaged, window_has}
use Rattle.wl_scene.specs.declared.tree_window.TreeWindow.{TreeWindow}
use Rattle.wl_scene.proofs.Truth.{and-left, and-right}

-- ---- spans

-- a span whose ends were held within the output's places
pub span-held : (first end f e z : ℤ) → int_le f z ≡ int_le first z → int_lt z e ≡ int_lt z end → in_span f (e -ℤ f) z ≡ (int_le first z && int_lt z end)
span-held first end f e z starts ends = grind (arith, ints)

pub four : (a b c d : Bool) → ((a && b) && (c && d)) ≡ ((a && c) && (b && d))
four true true true d = refl
four true true false d = refl
four true false true d = refl
four true false false d = refl
four false b c d = refl

-- a part of a rectangle on the output
pub part-of : (left wide top high : ℤ) (k : TreeWindow) (rect : Rect) (x y : ℤ) → in_span left wide x ≡ (in_span k.x (pos k.w) x && in_span rect.x rect.w (x -ℤ k.x))
    → in_span top high y ≡ (in_span k.y (pos k.h) y && in_span rect.y rect.h (y -ℤ k.y))
    → (in_span left wide x && in_span top high y) ≡ (window_has x y k && in_rect (x -ℤ k.x) (y -ℤ k.y) rect)
part-of left wide top high k rect x y across down =
    ap (λ b. b && in_span top high y) across ∙ ap (λ b. (in_span k.x (pos k.w) x && in_span rect.x rect.w (x -ℤ k.x)) && b) down
    ∙ four (in_span k.x (pos k.w) x) (in_span rect.x rect.w (x -ℤ k.x)) (in_span k.y (pos k.h) y) (in_span rect.y rect.h (y -ℤ k.y))

shift-from : (corner a z : ℤ) → int_le (corner +ℤ a) z ≡ int_le a (z -ℤ corner)
shift-from corner a z = grind (arith, ints)

shift-to : (corner a z : ℤ) → int_lt z (corner +ℤ a) ≡ int_lt (z -ℤ corner) a
shift-to corner a z = grind (arith, ints)

shift-zero : (corner z : ℤ) → int_le corner z ≡ int_le (pos 0) (z -ℤ corner)
shift-zero corner z = grind (arith, ints)

-- a span that is cut to a surface's side lies on the output from the surface's corner on
pub span-cut : (corner start len z : ℤ) (side first end : ℕ) (f e : ℤ) → f ≡ corner +ℤ pos first → e ≡ corner +ℤ pos end
    → ((w : ℤ) → int_le (pos first) w ≡ (int_le (pos 0) w && int_le start w)) → ((w : ℤ) → int_le (pos 0) w ≡ true → int_lt w (pos end) ≡ (int_lt w (pos side) && int_lt w (start +ℤ len)))
    → (int_le f z && int_lt z e) ≡ (in_span corner (pos side) z && in_span start len (z -ℤ corner))
span-cut corner start len z side first end f e from to starts ends =
    ap (λ s. int_le s z && int_lt z e) from ∙ ap (λ t. int_le (corner +ℤ pos first) z && int_lt z t) to
    ∙ ap (λ b. b && int_lt z (corner +ℤ pos end)) (shift-from corner (pos first) z ∙ starts w) ∙ ap (λ b. (int_le (pos 0) w && int_le start w) && b) (shift-to corner (pos end) z)
    ∙ at (int_le (pos 0) w) (ends w)
    ∙ sym (ap (λ b. (b && int_lt z (corner +ℤ pos side)) && in_span start len w) (shift-zero corner z) ∙ ap (λ b. (int_le (pos 0) w && b) && in_span start len w) (shift-to corner (pos side) z))
  where
    w : ℤ
    w = z -ℤ corner

    at : (b : Bool) → (b ≡ true → int_lt w (pos end) ≡ (int_lt w (pos side) && int_lt w (start +ℤ len)))
        → ((b && int_le start w) && int_lt w (pos end)) ≡ ((b && int_lt w (pos side)) && (int_le start w && int_lt w (start +ℤ len)))
    at true ends = ap (λ b. int_le start w && b) (ends refl) ∙ four true (int_le start w) (int_lt w (pos side)) (int_lt w (start +ℤ len))
    at false ends = refl

-- ---- damage

-- how far a point of a span is from its start
within-side : (start : ℤ) (side : ℕ) (z : ℤ) → in_span start (pos side) z ≡ true → nat_lt (unsigned_abs (z -ℤ start)) side ≡ true
within-side start side z e = grind (arith, ints, nat_tests)

from-start : (start : ℤ) (side : ℕ) (z : ℤ) → in_span start (pos side) z ≡ true → pos (unsigned_abs (z -ℤ start)) ≡ z -ℤ start
from-start start side z e = grind (arith, ints)

module _ (rects : List Rect) (k : TreeWindow) (x y : ℤ) where
  abbrev any_has : Bool
  any_has = list_any (in_rect (x -ℤ k.x) (y -ℤ k.y)) rects

  -- within the window the damage is that of its rectangles, or all where there are too many
  within-window : window_has x y k ≡ true → is_damaged k.w k.h rects (unsigned_abs (x -ℤ k.x)) (unsigned_abs (y -ℤ k.y)) ≡ cond (nat_lt 1024 (length rects)) true any_has
  within-window e =
      let across = and-left (in_span k.x (pos k.w) x) _ e in
      let down = and-right (in_span k.x (pos k.w) x) _ e in
      rw (within-side k.x k.w x across, within-side k.y k.h y down, from-start k.x k.w x across, from-start k.y k.h y down) refl

  by-window : (b : Bool) → (window_has x y k ≡ true → is_damaged k.w k.h rects (unsigned_abs (x -ℤ k.x)) (unsigned_abs (y -ℤ k.y)) ≡ b) → is_window_damaged rects x y k ≡ (window_has x y k && b)
  by-window b is = at (window_has x y k) is
    where
      at : (has : Bool) → (has ≡ true → is_damaged k.w k.h rects (unsigned_abs (x -ℤ k.x)) (unsigned_abs (y -ℤ k.y)) ≡ b)
          → (has && is_damaged k.w k.h rects (unsigned_abs (x -ℤ k.x)) (unsigned_abs (y -ℤ k.y))) ≡ (has && b)
      at true is = is refl
      at false is = refl

  pub damaged-few : length rects ≤ 1024 → is_window_damaged rects x y k ≡ (window_has x y k && any_has)
  damaged-few few = by-window any_has (λ e. within-window e ∙ ap (λ b. cond b true any_has) (not-more (length rects) few))
    where
      not-more : (n : ℕ) → n ≤ 1024 → nat_lt 1024 n ≡ false
      not-more n few = grind (arith, nat_tests)

  pub damaged-many : 1024 < length rects → is_window_damaged rects x y k ≡ (window_has x y k && true)
  damaged-many many = by-window true (λ e. within-window e ∙ ap (λ b. cond b true any_has) (more (length rects) many))
    where
      more : (n : ℕ) → 1024 < n → nat_lt 1024 n ≡ true
      more n many = grind (arith, nat_tests)

-- one rectangle more
pub any-part : (old has : Bool) (p : Rect → Bool) (rects : List Rect) (rect : Rect) → ((old || (has && list_any p rects)) || (has && p rect)) ≡ (old || (has && (list_any p rects || p rect)))
any-part old has p rects rect = at old has (list_any p rects) (p rect)
  where
    at : (a b c d : Bool) → ((a || (b && c)) || (b && d)) ≡ (a || (b && (c || d)))
    at true b c d = refl
    at false false c d = refl
    at false true c d = refl

-- What is damaged is what was, and a window's points in these rectangles of its surface. The output is as large.
pub record IsPartlyMarked (k : TreeWindow) (rects : List Rect) (old new : Damaged) : Type 0 where
  pub points : AddsPoints (λ x y. window_has x y k && list_any (in_rect (x -ℤ k.x) (y -ℤ k.y)) rects) old new
  pub sides : IsAsLarge old new

-- one of them more
pub partly-more : (k : TreeWindow) (rects : List Rect) (n : ℕ) (rect part : Rect) (old was new : Damaged) → n < length rects → IsPartlyMarked k (take n rects) old was
    → ((x y : ℕ) → x < was.width → y < was.height → has new x y ≡ (has was x y || in_rect (pos x) (pos y) part))
    → ((x y : ℕ) → x < 4096 → y < 4096 → in_rect (pos x) (pos y) part ≡ (window_has (pos x) (pos y) k && in_rect (pos x -ℤ k.x) (pos y -ℤ k.y) (get_or rects n rect)))
    → IsAsLarge was new → new.width ≤ 4096 → new.height ≤ 4096 → IsPartlyMarked k (take (n + 1) rects) old new
partly-more k rects n rect part old was new less is more lies sides small low = record {
  points = λ x y wide high.
      let wide1 : x < was.width = rw is.sides.width wide in
      let high1 : y < was.height = rw is.sides.height high in
      let wide2 : x < 4096 = omega (arith, wide1, sides.width, small) in
      let high2 : y < 4096 = omega (arith, high1, sides.height, low) in
      let p : Rect → Bool = in_rect (pos x -ℤ k.x) (pos y -ℤ k.y) in
      more x y wide1 high1
      ∙ ap (λ b. b || in_rect (pos x) (pos y) part) (is.points x y wide high)
      ∙ ap (λ b. (has old x y || (window_has (pos x) (pos y) k && list_any p (take n rects))) || b) (lies x y wide2 high2)
      ∙ any-part (has old x y) (window_has (pos x) (pos y) k) p (take n rects) (get_or rects n rect)
      ∙ ap (λ b. has old x y || (window_has (pos x) (pos y) k && b)) (sym (list_any_more p rects n rect less));
  sides = record { width = sides.width ∙ is.sides.width; height = sides.height ∙ is.sides.height };
}
