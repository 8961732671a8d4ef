-- What is marked of the told windows of a tree, by its plain windows.
use Rattle.std.proofs.Common.{◌≡◌, ℕ, ℤ, pos, suc, zero, Bool, true, false, List, [], ◌∷◌, map, refl, ap, sym, ◌∙◌, arith}
use Rattle.std.specs.Prelude.{◌==◌, ◌-ℤ◌, nat_lt, unsigned_abs, ◌&&◌, ◌||◌, if◌then◌else◌}
use Rattle.std.specs.Cmp.Lexicographic.{pointwise}
use Rattle.std.specs.List.{AllByRecursion, list_all, list_any}
use Rattle.std.proofs.lemmas.Bool.{and_parts, eq-eqb, eqb-true}
use Rattle.std.proofs.lemmas.Bool.Decides.{nat_tests}
use Rattle.std.proofs.lemmas.Int.{ints}
use Rattle.std.proofs.lemmas.List.Elements.{recursion_from_All}
use Rattle.wl_geom.specs.Rect.{in_span}
use Rattle.spec_desktop.specs.Marks.{Applied, has_same_record, int_eq, same_records}
use Rattle.spec_desktop.specs.Windows.{Window, contains}
use Rattle.wl_surface.specs.State.{is_damaged}
use Rattle.wl_store.specs.Transform.{transform_of}
use Rattle.wl_surface.specs.declared.applied.Change.{Change}
use Rattle.law_desktop.specs.TreeMarksLaws.{has_root, is_in_any, is_struck_at}
use Rattle.wl_scene.specs.TreeWindows.{told_of}
use Rattle.law_windows.specs.RepaintLaws.{IsAppliedBy, MarksAsApplied, SameAsRecords}
use Rattle.wl_scene.specs.Repaint.{is_damaged_by, is_same_window, is_struck_by, number_of, window_has}
use Rattle.law_windows.proofs.Lists.{all-first, all-second, any-and, any-as, any-mapped, any-turned, each-map}

-- ---- records

-- a transform tells its number
counted : (n : ℕ) → nat_lt n 8 ≡ true → number_of (transform_of n) ≡ n
counted zero e = refl
counted (suc zero) e = refl
counted (suc (suc zero)) e = refl
counted (suc (suc (suc zero))) e = refl
counted (suc (suc (suc (suc zero)))) e = refl
counted (suc (suc (suc (suc (suc zero))))) e = refl
counted (suc (suc (suc (suc (suc (suc zero)))))) e = refl
counted (suc (suc (suc (suc (suc (suc (suc zero))))))) e = refl
counted (suc (suc (suc (suc (suc (suc (suc (suc n)))))))) e = absurd (grind (arith, nat_tests))

one-same : (n a b : ℕ) → (n == a) ≡ true → (n == b) ≡ true → (a == b) ≡ true
one-same n a b e f = eq-eqb a b (sym (eqb-true n a e) ∙ eqb-true n b f)

with-true : (a b : Bool) → b ≡ true → a ≡ (a && b)
with-true true b e = sym e
with-true false b e = refl

-- windows of one client and tree
same-window : (w v : Window) → (w.owner.client == v.owner.client) ≡ true → (w.owner.root == v.owner.root) ≡ true → nat_lt w.transform 8 ≡ true → nat_lt v.transform 8 ≡ true
    → is_same_window (told_of w) (told_of v) ≡ has_same_record w v
same-window w v client root first second =
    ap (λ b. fields b (number_of (transform_of w.transform) == number_of (transform_of v.transform)))
    (sym (with-true (w.surface == v.surface) (w.owner.root == v.owner.root) root))
    ∙ ap (λ n. fields (w.surface == v.surface) (n == number_of (transform_of v.transform))) (counted w.transform first)
    ∙ ap (λ n. fields (w.surface == v.surface) (w.transform == n)) (counted v.transform second)
    ∙ sym (ap (λ b. fields (b && (w.surface == v.surface)) (w.transform == v.transform)) client)
  where
    fields : Bool → Bool → Bool
    fields a b = a && ((int_eq w.corner.x v.corner.x && int_eq w.corner.y v.corner.y) && (((w.width == v.width) && (w.height == v.height)) && (b && (w.scale == v.scale))))

module _ (client root : ℕ) where
  records : (was is : List Window) → list_all (has_root client root) was ≡ true → list_all (has_root client root) is ≡ true
      → list_all (λ w. nat_lt w.transform 8) was ≡ true → list_all (λ w. nat_lt w.transform 8) is ≡ true
      → pointwise is_same_window (map told_of was) (map told_of is) ≡ same_records was is
  records [] [] a b c d = refl
  records [] (v ∷ vs) a b c d = refl
  records (w ∷ ws) [] a b c d = refl
  records (w ∷ ws) (v ∷ vs) a b c d =
      let rooted = and_parts (has_root client root w) (list_all (has_root client root) ws) a in
      let other = and_parts (has_root client root v) (list_all (has_root client root) vs) b in
      let first = and_parts (nat_lt w.transform 8) (list_all (λ w. nat_lt w.transform 8) ws) c in
      let second = and_parts (nat_lt v.transform 8) (list_all (λ w. nat_lt w.transform 8) vs) d in
      let own = and_parts (client == w.owner.client) (root == w.owner.root) rooted.0 in
      let its = and_parts (client == v.owner.client) (root == v.owner.root) other.0 in
      ap (λ b. b && pointwise is_same_window (map told_of ws) (map told_of vs))
      (same-window w v (one-same client w.owner.client v.owner.client own.0 its.0) (one-same root w.owner.root v.owner.root own.1 its.1) first.0 second.0)
      ∙ ap (λ b. has_same_record w v && b) (records ws vs rooted.1 other.1 first.1 second.1)

pub same-as-records : SameAsRecords
same-as-records client root was is of-tree =
    records client root was is (all-first (has_root client root) was is of-tree.rooted) (all-second (has_root client root) was is of-tree.rooted)
    (all-first (λ w. nat_lt w.transform 8) was is of-tree.numbered) (all-second (λ w. nat_lt w.transform 8) was is of-tree.numbered)

-- ---- damage

from-start : (start : ℤ) (side : ℕ) (z : ℤ) → in_span start (pos side) z ≡ true → z -ℤ start ≡ pos (unsigned_abs (z -ℤ start))
from-start start side z e = grind (arith, ints)

module _ {A : Type 0} (changes : List (Change A)) (applied : Applied) (x y : ℤ) where
  -- the damage of the changes strikes the window
  abbrev damages : Window → ℕ → ℕ → Bool
  damages w i j = list_any (λ c. (c.surface == w.surface) && is_damaged w.width w.height c.rects.items i j) changes

  abbrev across : Window → ℕ
  across w = unsigned_abs (x -ℤ w.corner.x)

  abbrev down : Window → ℕ
  down w = unsigned_abs (y -ℤ w.corner.y)

  struck : (w : Window) → IsAppliedBy changes applied w → list_any (λ c. is_struck_by c x y (told_of w)) changes ≡ is_struck_at applied x y w
  struck w is =
      any-and (contains w x y) (λ c. c.surface == w.surface) (λ c. is_damaged w.width w.height c.rects.items (across w) (down w)) changes
      ∙ at (contains w x y) (λ e.
      let sides = and_parts (in_span w.corner.x (pos w.width) x) (in_span w.corner.y (pos w.height) y) e in
      sym (ap (λ z. applied w.owner.client w.surface z (y -ℤ w.corner.y)) (from-start w.corner.x w.width x sides.0)
      ∙ ap (λ z. applied w.owner.client w.surface (pos (across w)) z) (from-start w.corner.y w.height y sides.1) ∙ is (across w) (down w)))
    where
      at : (b : Bool) → (b ≡ true → damages w (across w) (down w) ≡ applied w.owner.client w.surface (x -ℤ w.corner.x) (y -ℤ w.corner.y))
          → (b && damages w (across w) (down w)) ≡ (b && applied w.owner.client w.surface (x -ℤ w.corner.x) (y -ℤ w.corner.y))
      at true f = f refl
      at false f = refl

  -- what they damage is what was applied
  damaged : (is : List Window) → AllByRecursion (IsAppliedBy changes applied) is
      → list_any (is_damaged_by (map told_of is) x y) changes ≡ list_any (is_struck_at applied x y) is
  damaged is each =
      any-turned (λ c. is_struck_by c x y) changes (map told_of is)
      ∙ any-mapped told_of (λ t. list_any (λ c. is_struck_by c x y t) changes) is
      ∙ any-as (λ w. list_any (λ c. is_struck_by c x y (told_of w)) changes) (is_struck_at applied x y) is
      (each-map (IsAppliedBy changes applied) (λ w. list_any (λ c. is_struck_by c x y (told_of w)) changes ≡ is_struck_at applied x y w) struck is each)

pub marks-as-applied : (A : Type 0) → MarksAsApplied A
marks-as-applied A client root was is of-tree changes applied each x y =
    ap (λ b. if b then list_any (is_damaged_by (map told_of is) x y) changes else (list_any (window_has x y) (map told_of was) || list_any (window_has x y) (map told_of is)))
    (same-as-records client root was is of-tree)
    ∙ ap (λ b. if same_records was is then b else (list_any (window_has x y) (map told_of was) || list_any (window_has x y) (map told_of is)))
    (damaged changes applied x y is (recursion_from_All (IsAppliedBy changes applied) is each))
    ∙ ap (λ b. if same_records was is then list_any (is_struck_at applied x y) is else (b || list_any (window_has x y) (map told_of is)))
    (any-mapped told_of (window_has x y) was)
    ∙ ap (λ b. if same_records was is then list_any (is_struck_at applied x y) is else (is_in_any x y was || b)) (any-mapped told_of (window_has x y) is)
