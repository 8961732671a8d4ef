-- What is marked of windows that are told under other names of their surfaces.
use Rattle.std.proofs.Common.{◌≡◌, ℕ, ℤ, pos, Bool, true, false, List, [], ◌∷◌, ◌++◌, map, refl, ap, ap₂, sym, ◌∙◌, eq-eqb, eqb-true, arith}
use Rattle.std.specs.Prelude.{◌==◌, ◌-ℤ◌, nat_lt, unsigned_abs, ◌&&◌, ◌||◌, if◌then◌else◌}
use Rattle.std.specs.List.{AllByRecursion as Each, list_all, list_any}
use Rattle.std.proofs.lemmas.Bool.{and_parts, or_left, or_right}
use Rattle.std.proofs.lemmas.Int.{ints}
use Rattle.std.proofs.lemmas.List.{map-append}
use Rattle.std.proofs.lemmas.List.Elements.{recursion_from_All}
use Rattle.std.proofs.lemmas.List.Folds.{list_all-map}
use Rattle.wl_geom.specs.Rect.{in_span}
use Rattle.spec_desktop.specs.Marks.{Applied, has_same_record, int_eq, same_records}
use Rattle.spec_desktop.specs.Windows.{Window, contains}
use Rattle.wl_surface.specs.State.{is_damaged}
use Rattle.wl_surface.specs.declared.applied.Change.{Change}
use Rattle.law_desktop.specs.TreeMarksLaws.{has_root, is_in_any, is_struck_at}
use Rattle.wl_scene.specs.TreeWindows.{told_of}
use Rattle.wl_scene.specs.declared.tree_window.TreeWindow.{TreeWindow}
use Rattle.law_desktop.proofs.ByNames.Names.Lists.{each-weaker}
use Rattle.law_windows.specs.RepaintLaws.{AreOfTree, SameAsRecords}
use Rattle.wl_scene.specs.Repaint.{is_damaged_by, is_struck_by, same_windows, window_has}
use Rattle.law_windows.specs.RenamedMarks.{AreNamedApart, IsAppliedByName, MarksAppliedByName, SameByName}
use Rattle.law_windows.specs.RenamedWindows.{has_window, told_by}
use Rattle.law_windows.proofs.Lists.{any-and, any-as, any-mapped, any-turned}
use Rattle.law_windows.proofs.RenamedWindows.Names.{same-name}

-- ---- records

module _ (f : ℕ → ℕ) where
  -- a window whose surface, and the root of its tree, go by their other names
  abbrev called : Window → Window
  called w = record w { owner = record w.owner { root = f w.owner.root }; surface = f w.surface }

  told-called : (ws : List Window) → map told_of (map called ws) ≡ map (told_by f) ws
  told-called [] = refl
  told-called (w ∷ ws) = ap (λ ts. told_by f w ∷ ts) (told-called ws)

  called-all : (p : Window → Bool) (was is : List Window) → list_all p (map called was ++ map called is) ≡ list_all (λ w. p (called w)) (was ++ is)
  called-all p was is = ap (list_all p) (sym (map-append called was is)) ∙ list_all-map p called (was ++ is)

  called-rooted : (client root : ℕ) (ws : List Window) → list_all (has_root client root) ws ≡ true → list_all (λ w. has_root client (f root) (called w)) ws ≡ true
  called-rooted client root [] rooted = refl
  called-rooted client root (w ∷ ws) rooted =
      let parts = and_parts (has_root client root w) (list_all (has_root client root) ws) rooted in
      let own = and_parts (client == w.owner.client) (root == w.owner.root) parts.0 in
      ap₂ (λ b c. (b && c) && list_all (λ w. has_root client (f root) (called w)) ws) own.0
      (eq-eqb (f root) (f w.owner.root) (ap f (eqb-true root w.owner.root own.1)))
      ∙ called-rooted client root ws parts.1

  called-tree : (client root : ℕ) (was is : List Window) → AreOfTree client root was is → AreOfTree client (f root) (map called was) (map called is)
  called-tree client root was is of-tree = record {
    rooted = called-all (has_root client (f root)) was is ∙ called-rooted client root (was ++ is) of-tree.rooted;
    numbered = called-all (λ w. nat_lt w.transform 8) was is ∙ of-tree.numbered;
  }

  same-record : (w v : Window) → (f w.surface == f v.surface) ≡ (w.surface == v.surface) → has_same_record (called w) (called v) ≡ has_same_record w v
  same-record w v e =
      ap (λ b. ((w.owner.client == v.owner.client) && b) && ((int_eq w.corner.x v.corner.x && int_eq w.corner.y v.corner.y)
      && ((w.width == v.width && w.height == v.height) && (w.transform == v.transform && w.scale == v.scale)))) e

  first : (w : Window) (ws : List Window) → has_window w.surface (w ∷ ws) ≡ true
  first w ws = or_left (w.surface == w.surface) (has_window w.surface ws) (eq-eqb w.surface w.surface refl)

  records : (was is : List Window) → AreNamedApart f was is → same_records (map called was) (map called is) ≡ same_records was is
  records [] [] apart = refl
  records [] (v ∷ vs) apart = refl
  records (w ∷ ws) [] apart = refl
  records (w ∷ ws) (v ∷ vs) apart =
      ap₂ (λ a b. a && b) (same-record w v (same-name f w.surface v.surface (apart w.surface v.surface (first w ws) (first v vs))))
      (records ws vs (λ a b old new. apart a b (or_right (w.surface == a) (has_window a ws) old) (or_right (v.surface == b) (has_window b vs) new)))

pub same-by-name : SameAsRecords → SameByName
same-by-name as-records f client root was is of-tree apart =
    ap₂ (λ (ts us : List TreeWindow). same_windows ts us) (sym (told-called f was)) (sym (told-called f is))
    ∙ as-records client (f root) (map (called f) was) (map (called f) is) (called-tree f client root was is of-tree)
    ∙ records f was is apart

-- ---- damage

from-start : (start : ℤ) (side : ℕ) (z : ℤ) → in_span start (pos side) z ≡ true → z -ℤ start ≡ pos (unsigned_abs (z -ℤ start))
from-start start side z e = grind (arith, ints)

module _ {A : Type 0} (f : ℕ → ℕ) (changes : List (Change A)) (applied : Applied) (x y : ℤ) where
  -- the damage of the changes strikes the window
  abbrev damages : Window → ℕ → ℕ → Bool
  damages w i j = list_any (λ c. (c.surface == f w.surface) && is_damaged w.width w.height c.rects.items i j) changes

  abbrev across : Window → ℕ
  across w = unsigned_abs (x -ℤ w.corner.x)

  abbrev down : Window → ℕ
  down w = unsigned_abs (y -ℤ w.corner.y)

  struck : (w : Window) → IsAppliedByName f changes applied w → list_any (λ c. is_struck_by c x y (told_by f w)) changes ≡ is_struck_at applied x y w
  struck w is =
      any-and (contains w x y) (λ c. c.surface == f w.surface) (λ c. is_damaged w.width w.height c.rects.items (across w) (down w)) changes
      ∙ at (contains w x y) (λ e.
      let sides = and_parts (in_span w.corner.x (pos w.width) x) (in_span w.corner.y (pos w.height) y) e in
      sym (ap (λ z. applied w.owner.client w.surface z (y -ℤ w.corner.y)) (from-start w.corner.x w.width x sides.0)
      ∙ ap (λ z. applied w.owner.client w.surface (pos (across w)) z) (from-start w.corner.y w.height y sides.1) ∙ is (across w) (down w)))
    where
      at : (b : Bool) → (b ≡ true → damages w (across w) (down w) ≡ applied w.owner.client w.surface (x -ℤ w.corner.x) (y -ℤ w.corner.y))
          → (b && damages w (across w) (down w)) ≡ (b && applied w.owner.client w.surface (x -ℤ w.corner.x) (y -ℤ w.corner.y))
      at true f = f refl
      at false f = refl

  -- what they damage is what was applied
  damaged : (is : List Window) → Each (IsAppliedByName f changes applied) is
      → list_any (is_damaged_by (map (told_by f) is) x y) changes ≡ list_any (is_struck_at applied x y) is
  damaged is each =
      any-turned (λ c. is_struck_by c x y) changes (map (told_by f) is)
      ∙ any-mapped (told_by f) (λ t. list_any (λ c. is_struck_by c x y t) changes) is
      ∙ any-as (λ w. list_any (λ c. is_struck_by c x y (told_by f w)) changes) (is_struck_at applied x y) is
      (each-weaker (IsAppliedByName f changes applied) (λ w. list_any (λ c. is_struck_by c x y (told_by f w)) changes ≡ is_struck_at applied x y w) struck is each)

pub marks-applied-by-name : (A : Type 0) → SameByName → MarksAppliedByName A
marks-applied-by-name A by-name f client root was is of-tree apart changes applied each x y =
    ap (λ b. if b then list_any (is_damaged_by (map (told_by f) is) x y) changes
    else (list_any (window_has x y) (map (told_by f) was) || list_any (window_has x y) (map (told_by f) is)))
    (by-name f client root was is of-tree apart)
    ∙ ap (λ b. if same_records was is then b else (list_any (window_has x y) (map (told_by f) was) || list_any (window_has x y) (map (told_by f) is)))
    (damaged f changes applied x y is (recursion_from_All (IsAppliedByName f changes applied) is each))
    ∙ ap (λ b. if same_records was is then list_any (is_struck_at applied x y) is else (b || list_any (window_has x y) (map (told_by f) is)))
    (any-mapped (told_by f) (window_has x y) was)
    ∙ ap (λ b. if same_records was is then list_any (is_struck_at applied x y) is else (is_in_any x y was || b)) (any-mapped (told_by f) (window_has x y) is)
