-- What is marked where windows of a toplevel moved is all that has to be: of the told windows in pieces, by the plain ones.
use Rattle.std.proofs.Common.{◌≡◌, ℕ, ◌-◌, suc, zero, ℤ, pos, Bool, true, false, List, [], ◌∷◌, ◌++◌, map, refl, ap, ap₂, sym, subst, ◌∙◌, arith, take, drop, length}
use Rattle.std.specs.Prelude.{◌==◌, ◌-ℤ◌, ◌&&◌, ◌||◌, if◌then◌else◌, nat_le, nat_lt, not, unsigned_abs}
use Rattle.std.specs.List.{list_any}
use Rattle.std.proofs.lemmas.Bool.{and_from, and_parts, eq-eqb, eqb-true, or_left, or_right}
use Rattle.std.proofs.lemmas.Bool.Decides.{nat_tests}
use Rattle.std.proofs.lemmas.Int.{ints}
use Rattle.std.proofs.lemmas.List.{append-nil, append_assoc, drop-map, length-map, take-append-drop, take-map}
use Rattle.std.proofs.lemmas.List.Folds.{list_any-append}
use Rattle.wl_geom.specs.Rect.{in_span}
use Rattle.wl_store.specs.Transform.{transform_of}
use Rattle.wl_surface.specs.State.{is_damaged}
use Rattle.wl_surface.specs.Surfaces.{Surfaces}
use Rattle.wl_surface.specs.declared.applied.Change.{Change}
use Rattle.spec_desktop.specs.Desktop.{Desktop, owned_in}
use Rattle.spec_desktop.specs.Marks.{Applied, AreDistinct, has_same_record, in_output, int_eq, is_changed_at, is_damaged_at, is_restacked_at}
use Rattle.spec_desktop.specs.Moments.{applied_between, marks_at_least}
use Rattle.spec_desktop.specs.Stacked.{all_windows}
use Rattle.spec_desktop.specs.Windows.{Window, contains}
use Rattle.law_desktop.proofs.Lists.Each.{Each, each-first, each-map, each-second}
use Rattle.law_desktop.proofs.Lists.Tests.{each-all as so-each}
use Rattle.law_desktop.proofs.Marks.Stacks.{AreSame, recorded}
use Rattle.law_desktop.proofs.RootsOf.Staying.{all-each}
use Rattle.law_desktop.proofs.Truth.{and-right, differ, either-of, or-left, or-right}
use Rattle.law_desktop.specs.Renaming.{AreToldApart, has_surface}
use Rattle.law_desktop.specs.Toplevel.{ChangesToplevel, windows_with}
use Rattle.law_desktop.specs.TreeMarksLaws.{AreUndamaged, among, is_in_any, is_struck_at}
use Rattle.law_windows.specs.RenamedMarks.{IsAppliedByName}
use Rattle.law_windows.specs.RenamedWindows.{told_by}
use Rattle.law_windows.specs.RepaintLaws.{AreOfClient}
use Rattle.law_windows.specs.Runs.Marks.{IsThereIn, IsTold}
use Rattle.law_windows.proofs.Lists.{any-and, any-mapped, any-turned}
use Rattle.law_windows.proofs.OneToplevel.Marked.{run-is-told, runs-are-of-client, there-each}
use Rattle.wl_scene.specs.Repaint.{is_damaged_by, is_same_window, is_struck_by, marks, marks_trees, number_of, same_windows, window_has}
use Rattle.wl_scene.specs.declared.tree_window.TreeWindow.{TreeWindow}
use Rattle.wl_clients.specs.Staying.{below_top, lifted, marks_around, marks_moved, marks_pieces, moves_in_one, pixels_lifted, same_above, same_below, top}
use Rattle.wl_clients.proofs.OnScreen.Pieces.{Piece, Stay, afters, befores, loose_is, loose_was, only_if, pieces-marked, stay_is}

-- ---- windows that are told to be the same

-- a transform tells its number
counted : (n : ℕ) → nat_lt n 8 ≡ true → number_of (transform_of n) ≡ n
counted zero e = refl
counted (suc zero) e = refl
counted (suc (suc zero)) e = refl
counted (suc (suc (suc zero))) e = refl
counted (suc (suc (suc (suc zero)))) e = refl
counted (suc (suc (suc (suc (suc zero))))) e = refl
counted (suc (suc (suc (suc (suc (suc zero)))))) e = refl
counted (suc (suc (suc (suc (suc (suc (suc zero))))))) e = refl
counted (suc (suc (suc (suc (suc (suc (suc (suc n)))))))) e = absurd (grind (arith, nat_tests))

-- the window is of the client, of a surface that is there, and turned in one of the eight ways
record Good (c : ℕ) (all : Surfaces) (w : Window) : Type 0 where
  client : (c == w.owner.client) ≡ true
  turned : nat_lt w.transform 8 ≡ true
  there : has_surface w.surface all ≡ true

module _ (c : ℕ) (all : Surfaces) (f : ℕ → ℕ) (apart : AreToldApart f all) where
  same-told : (w v : Window) → Good c all w → Good c all v → is_same_window (told_by f w) (told_by f v) ≡ true → has_same_record w v ≡ true
  same-told w v a b e =
      let parts = and_parts ((f w.surface == f v.surface) && (f w.owner.root == f v.owner.root)) _ e in
      let names = and_parts (f w.surface == f v.surface) (f w.owner.root == f v.owner.root) parts.0 in
      let rest = and_parts (int_eq w.corner.x v.corner.x && int_eq w.corner.y v.corner.y) _ parts.1 in
      let sizes = and_parts ((w.width == v.width) && (w.height == v.height)) _ rest.1 in
      let buffers = and_parts (number_of (transform_of w.transform) == number_of (transform_of v.transform)) (w.scale == v.scale) sizes.1 in
      let turned : (w.transform == v.transform) ≡ true =
      eq-eqb w.transform v.transform (sym (counted w.transform a.turned) ∙ eqb-true _ _ buffers.0 ∙ counted v.transform b.turned) in
      and_from _ _
      (and_from (w.owner.client == v.owner.client) _
      (eq-eqb w.owner.client v.owner.client (sym (eqb-true c w.owner.client a.client) ∙ eqb-true c v.owner.client b.client))
      (eq-eqb w.surface v.surface (apart w.surface v.surface a.there b.there (eqb-true (f w.surface) (f v.surface) names.0))))
      (and_from _ _ rest.0 (and_from _ _ sizes.0 (and_from (w.transform == v.transform) _ turned buffers.1)))

  all-same-told : (ws vs : List Window) → Each (Good c all) ws → Each (Good c all) vs → same_windows (map (told_by f) ws) (map (told_by f) vs) ≡ true → AreSame ws vs
  all-same-told [] [] a b e = tt
  all-same-told [] (v ∷ vs) a b e = absurd (differ e)
  all-same-told (w ∷ ws) [] a b e = absurd (differ e)
  all-same-told (w ∷ ws) (v ∷ vs) a b e =
      let parts = and_parts (is_same_window (told_by f w) (told_by f v)) (same_windows (map (told_by f) ws) (map (told_by f) vs)) e in
      (same-told w v a.0 b.0 parts.0, all-same-told ws vs a.1 b.1 parts.1)

-- ---- damage that is told

from-start : (start : ℤ) (side : ℕ) (z : ℤ) → in_span start (pos side) z ≡ true → z -ℤ start ≡ pos (unsigned_abs (z -ℤ start))
from-start start side z e = grind (arith, ints)

module _ {A : Type 0} (f : ℕ → ℕ) (changes : List (Change A)) (applied : Applied) (x y : ℤ) where
  abbrev across : Window → ℕ
  across w = unsigned_abs (x -ℤ w.corner.x)

  abbrev down : Window → ℕ
  down w = unsigned_abs (y -ℤ w.corner.y)

  struck-told : (w : Window) → IsAppliedByName f changes applied w → list_any (λ c. is_struck_by c x y (told_by f w)) changes ≡ is_struck_at applied x y w
  struck-told w is =
      any-and (contains w x y) (λ c. c.surface == f w.surface) (λ c. is_damaged w.width w.height c.rects.items (across w) (down w)) changes
      ∙ at (contains w x y) (λ e.
      let sides = and_parts (in_span w.corner.x (pos w.width) x) (in_span w.corner.y (pos w.height) y) e in
      sym (ap (λ z. applied w.owner.client w.surface z (y -ℤ w.corner.y)) (from-start w.corner.x w.width x sides.0)
      ∙ ap (λ z. applied w.owner.client w.surface (pos (across w)) z) (from-start w.corner.y w.height y sides.1) ∙ is (across w) (down w)))
    where
      at : (b : Bool)
          → (b ≡ true → list_any (λ c. (c.surface == f w.surface) && is_damaged w.width w.height c.rects.items (across w) (down w)) changes
          ≡ applied w.owner.client w.surface (x -ℤ w.corner.x) (y -ℤ w.corner.y))
          → (b && list_any (λ c. (c.surface == f w.surface) && is_damaged w.width w.height c.rects.items (across w) (down w)) changes)
          ≡ (b && applied w.owner.client w.surface (x -ℤ w.corner.x) (y -ℤ w.corner.y))
      at true f = f refl
      at false f = refl

  all-struck : (ws : List Window) → Each (IsAppliedByName f changes applied) ws
      → list_any (λ t. list_any (λ c. is_struck_by c x y t) changes) (map (told_by f) ws) ≡ list_any (is_struck_at applied x y) ws
  all-struck [] each = refl
  all-struck (w ∷ ws) each = ap₂ (λ a b. a || b) (struck-told w each.0) (all-struck ws each.1)

  -- what is damaged of a piece, where it stays, and what lies in it, where it doesn't, is marked of it
  piece-told : (was is : List Window) → Each (IsAppliedByName f changes applied) is → (s : Bool) → same_windows (map (told_by f) was) (map (told_by f) is) ≡ s
      → (list_any (is_struck_at applied x y) (only_if s is) || (is_in_any x y (only_if (not s) was) || is_in_any x y (only_if (not s) is))) ≡ true
      → marks (map (told_by f) was) (map (told_by f) is) changes x y ≡ true
  piece-told was is each true same e =
      ap (λ b. if b then list_any (is_damaged_by (map (told_by f) is) x y) changes
      else (list_any (window_has x y) (map (told_by f) was) || list_any (window_has x y) (map (told_by f) is))) same
      ∙ any-turned (λ c. is_struck_by c x y) changes (map (told_by f) is) ∙ all-struck is each ∙ alone (list_any (is_struck_at applied x y) is) e
    where
      alone : (b : Bool) → (b || false) ≡ true → b ≡ true
      alone true g = refl
      alone false g = g
  piece-told was is each false same e =
      ap (λ b. if b then list_any (is_damaged_by (map (told_by f) is) x y) changes
      else (list_any (window_has x y) (map (told_by f) was) || list_any (window_has x y) (map (told_by f) is))) same
      ∙ ap₂ (λ a b. a || b) (any-mapped (told_by f) (window_has x y) was) (any-mapped (told_by f) (window_has x y) is) ∙ e

-- ---- one of several pieces

-- what is damaged of a piece that stays, or lies in one that doesn't
abbrev Shows : Applied → ℤ → ℤ → Piece → Type 0
Shows applied x y p =
    (list_any (is_struck_at applied x y) (only_if p.stays p.is) || (is_in_any x y (only_if (not p.stays) p.was) || is_in_any x y (only_if (not p.stays) p.is))) ≡ true

-- a piece, with whether it is marked
abbrev AreMarked : Applied → ℤ → ℤ → List Piece → List Bool → Type 0
AreMarked applied x y [] [] = Unit {0}
AreMarked applied x y [] (m ∷ ms) = ⊥
AreMarked applied x y (p ∷ ps) [] = ⊥
AreMarked applied x y (p ∷ ps) (m ∷ ms) = (Shows applied x y p → m ≡ true) × AreMarked applied x y ps ms

one-marked : (applied : Applied) (x y : ℤ) (ps : List Piece) (ms : List Bool) → AreMarked applied x y ps ms
    → (list_any (is_struck_at applied x y) (stay_is ps) || (is_in_any x y (loose_was ps) || is_in_any x y (loose_is ps))) ≡ true → list_any (λ m. m) ms ≡ true
one-marked applied x y [] [] are e = e
one-marked applied x y [] (m ∷ ms) are e = absurd are
one-marked applied x y (p ∷ ps) [] are e = absurd are
one-marked applied x y (p ∷ ps) (m ∷ ms) are e = at (λ f. one-marked applied x y ps ms are.1 f)
  where
    split : (q : Window → Bool) (ws vs : List Window) → list_any q (ws ++ vs) ≡ true → (list_any q ws ≡ true → Shows applied x y p)
        → (list_any q vs ≡ true → list_any (λ b. b) ms ≡ true) → (m || list_any (λ b. b) ms) ≡ true
    split q ws vs g own later =
        either-of _ (list_any q ws) (list_any q vs) (sym (list_any-append q ws vs) ∙ g) (λ h. or_left m _ (are.0 (own h))) (λ h. or_right m _ (later h))

    at : ((list_any (is_struck_at applied x y) (stay_is ps) || (is_in_any x y (loose_was ps) || is_in_any x y (loose_is ps))) ≡ true → list_any (λ b. b) ms ≡ true)
        → (m || list_any (λ b. b) ms) ≡ true
    at more =
        either-of _ (list_any (is_struck_at applied x y) (only_if p.stays p.is ++ stay_is ps))
        (is_in_any x y (only_if (not p.stays) p.was ++ loose_was ps) || is_in_any x y (only_if (not p.stays) p.is ++ loose_is ps)) e
        (λ g. split (is_struck_at applied x y) (only_if p.stays p.is) (stay_is ps) g (λ h. or_left _ _ h) (λ h. more (or_left _ _ h)))
        (λ g. either-of _ (is_in_any x y (only_if (not p.stays) p.was ++ loose_was ps)) (is_in_any x y (only_if (not p.stays) p.is ++ loose_is ps)) g
        (λ h. split (λ w. contains w x y) (only_if (not p.stays) p.was) (loose_was ps) h (λ i. or_right _ _ (or_left _ _ i)) (λ i. more (or_right _ _ (or_left _ _ i))))
        (λ h. split (λ w. contains w x y) (only_if (not p.stays) p.is) (loose_is ps) h (λ i. or_right _ _ (or_right _ _ i)) (λ i. more (or_right _ _ (or_right _ _ i)))))

-- ---- lists in pieces

joined : (n : ℕ) (ws rest : List Window) → take n ws ++ (drop n ws ++ rest) ≡ ws ++ rest
joined n ws rest = sym (append_assoc (take n ws) (drop n ws) rest) ∙ ap (λ (l : List Window). l ++ rest) (take-append-drop n ws)

-- those between so many at the bottom and so many on top, and those on top
abbrev mid : ℕ → ℕ → List Window → List Window
mid n m ws = take (length (drop n ws) - m) (drop n ws)

abbrev high : ℕ → ℕ → List Window → List Window
high n m ws = drop (length (drop n ws) - m) (drop n ws)

rejoined : (n m a k : ℕ) (below ws above : List Window)
    → below ++ (take n ws ++ (take a (mid n m ws) ++ (take k (drop a (mid n m ws)) ++ (drop k (drop a (mid n m ws)) ++ (high n m ws ++ (above ++ []))))))
    ≡ among below above ws
rejoined n m a k below ws above =
    ap (λ (l : List Window). below ++ l)
    (ap (λ (l : List Window). take n ws ++ l)
    (ap (λ (l : List Window). take a (mid n m ws) ++ l) (joined k (drop a (mid n m ws)) (high n m ws ++ (above ++ []))) ∙ joined a (mid n m ws) (high n m ws ++ (above ++ []))
    ∙ joined (length (drop n ws) - m) (drop n ws) (above ++ []))
    ∙ joined n ws (above ++ []) ∙ ap (λ (l : List Window). ws ++ l) (append-nil above))

-- told, they are the told pieces
told-mid : (f : ℕ → ℕ) (n m : ℕ) (ws : List Window) → below_top m (drop n (map (told_by f) ws)) ≡ map (told_by f) (mid n m ws)
told-mid f n m ws =
    ap (λ (l : List TreeWindow). below_top m l) (drop-map (told_by f) n ws)
    ∙ ap (λ (i : ℕ). take (i - m) (map (told_by f) (drop n ws))) (length-map (drop n ws) (told_by f))
    ∙ take-map (told_by f) (length (drop n ws) - m) (drop n ws)

told-high : (f : ℕ → ℕ) (n m : ℕ) (ws : List Window) → top m (drop n (map (told_by f) ws)) ≡ map (told_by f) (high n m ws)
told-high f n m ws =
    ap (λ (l : List TreeWindow). top m l) (drop-map (told_by f) n ws)
    ∙ ap (λ (i : ℕ). drop (i - m) (map (told_by f) (drop n ws))) (length-map (drop n ws) (told_by f))
    ∙ drop-map (told_by f) (length (drop n ws) - m) (drop n ws)

each-take : (P : Window → Type 0) (n : ℕ) (ws : List Window) → Each P ws → Each P (take n ws)
each-take P n ws e = each-first P (take n ws) (drop n ws) (subst (λ (l : List Window). Each P l) (sym (take-append-drop n ws)) e)

each-drop : (P : Window → Type 0) (n : ℕ) (ws : List Window) → Each P ws → Each P (drop n ws)
each-drop P n ws e = each-second P (take n ws) (drop n ws) (subst (λ (l : List Window). Each P l) (sym (take-append-drop n ws)) e)

self-same : (ws : List Window) → AreSame ws ws
self-same [] = tt
self-same (w ∷ ws) = (recorded w w (record { client = refl; surface = refl; x = refl; y = refl; width = refl; height = refl; transform = refl; scale = refl }), self-same ws)

unstruck : (applied : Applied) (x y : ℤ) (ws : List Window) → AreUndamaged applied ws → list_any (is_struck_at applied x y) ws ≡ false
unstruck applied x y [] none = refl
unstruck applied x y (w ∷ ws) none =
    ap (λ b. (contains w x y && b) || list_any (is_struck_at applied x y) ws)
    (or-left (applied w.owner.client w.surface (x -ℤ w.corner.x) (y -ℤ w.corner.y)) _ (none (x -ℤ w.corner.x) (y -ℤ w.corner.y)))
    ∙ at (contains w x y) (unstruck applied x y ws (λ i j. or-right (applied w.owner.client w.surface i j) _ (none i j)))
  where
    at : (b : Bool) → list_any (is_struck_at applied x y) ws ≡ false → ((b && false) || list_any (is_struck_at applied x y) ws) ≡ false
    at true e = e
    at false e = e

none-of-both : (applied : Applied) (ws vs : List Window) → AreUndamaged applied (ws ++ vs) → AreUndamaged applied ws × AreUndamaged applied vs
none-of-both applied ws vs none = (
  λ i j. or-left (list_any (λ w. applied w.owner.client w.surface i j) ws) (list_any (λ w. applied w.owner.client w.surface i j) vs)
      (sym (list_any-append (λ w. applied w.owner.client w.surface i j) ws vs) ∙ none i j),
  λ i j. or-right (list_any (λ w. applied w.owner.client w.surface i j) ws) (list_any (λ w. applied w.owner.client w.surface i j) vs)
      (sym (list_any-append (λ w. applied w.owner.client w.surface i j) ws vs) ∙ none i j),
)

-- ---- a toplevel

module _ {A : Type 0} (c t : ℕ) (d e : Desktop) (step : ChangesToplevel c t d e) (f : ℕ → ℕ) (changes : List (Change A)) (told : IsTold c d e f changes) (x y : ℤ) where
  abbrev applied : Applied
  applied = applied_between d e

  abbrev all : Surfaces
  all = (owned_in d c).surfaces

  good : (ws : List Window) → Each (λ w. (c == w.owner.client) ≡ true) ws → Each (λ w. nat_lt w.transform 8 ≡ true) ws → Each (IsThereIn all) ws → Each (Good c all) ws
  good [] a b g = tt
  good (w ∷ ws) a b g = (record { client = a.0; turned = b.0; there = g.0.0 }, good ws a.1 b.1 g.1)

  of-client : AreOfClient c step.was step.is
  of-client = runs-are-of-client c t d e step told.shown_before told.shown_after

  there-was : Each (IsThereIn all) step.was
  there-was = subst (λ (ws : List Window). Each (IsThereIn all) ws) (sym step.was_of) (there-each c t d)

  there-is : Each (IsThereIn all) step.is
  there-is =
      subst (λ (ws : List Window). Each (IsThereIn all) ws) (sym step.is_of)
      (each-map (IsThereIn (owned_in e c).surfaces) (IsThereIn all) (λ w there. (told.stay w.surface there.0, told.stay w.owner.root there.1)) (windows_with c t e) (there-each c t e))

  owned : Each (λ w. (c == w.owner.client) ≡ true) (step.was ++ step.is)
  owned = so-each (λ w. c == w.owner.client) (step.was ++ step.is) of-client.owned

  numbered : Each (λ w. nat_lt w.transform 8 ≡ true) (step.was ++ step.is)
  numbered = so-each (λ w. nat_lt w.transform 8) (step.was ++ step.is) of-client.numbered

  good-was : Each (Good c all) step.was
  good-was =
      good step.was (each-first (λ w. (c == w.owner.client) ≡ true) step.was step.is owned) (each-first (λ w. nat_lt w.transform 8 ≡ true) step.was step.is numbered) there-was

  good-is : Each (Good c all) step.is
  good-is =
      good step.is (each-second (λ w. (c == w.owner.client) ≡ true) step.was step.is owned) (each-second (λ w. nat_lt w.transform 8 ≡ true) step.was step.is numbered) there-is

  -- windows that are told to be the same are
  pub run-same : same_windows (map (told_by f) step.was) (map (told_by f) step.is) ≡ true → AreSame step.was step.is
  run-same = all-same-told c all f told.apart step.was step.is good-was good-is

  pub run-owned : Each (λ w. (c == w.owner.client) ≡ true) step.was
  run-owned = each-first (λ w. (c == w.owner.client) ≡ true) step.was step.is owned

  told-is : Each (IsAppliedByName f changes applied) step.is
  told-is = all-each (IsAppliedByName f changes applied) step.is (run-is-told A c t d e step f changes told.tells)

  -- a piece of the windows, before and after
  abbrev same-now : List Window → List Window → Bool
  same-now ws vs = same_windows (map (told_by f) ws) (map (told_by f) vs)

  abbrev piece : List Window → List Window → Piece
  piece ws vs = record { was = ws; is = vs; stays = same-now ws vs }

  abbrev rest : List Window → Piece
  rest ws = record { was = ws; is = ws; stays = true }

  abbrev marked : List Window → List Window → Bool
  marked ws vs = marks (map (told_by f) ws) (map (told_by f) vs) changes x y

  module _ (n m a b k : ℕ) where
    abbrev was-mid : List Window
    was-mid = mid n m step.was

    abbrev is-mid : List Window
    is-mid = mid n m step.is

    abbrev pieces : List Piece
    pieces =
        rest step.below ∷ piece (take n step.was) (take n step.is) ∷ piece (take a was-mid) (take b is-mid) ∷ piece (take k (drop a was-mid)) (take k (drop b is-mid))
        ∷ piece (drop k (drop a was-mid)) (drop k (drop b is-mid)) ∷ piece (high n m step.was) (high n m step.is) ∷ rest step.above ∷ []

    before-is : all_windows d ≡ befores pieces
    before-is = step.before ∙ sym (rejoined n m a k step.below step.was step.above)

    after-is : all_windows e ≡ afters pieces
    after-is = step.after ∙ sym (rejoined n m b k step.below step.is step.above)

    stays-told : (ws vs : List Window) → Each (Good c all) ws → Each (Good c all) vs → same-now ws vs ≡ true → AreSame ws vs
    stays-told ws vs good-ws good-vs same = all-same-told c all f told.apart ws vs good-ws good-vs same

    mid-was : Each (Good c all) (mid n m step.was)
    mid-was = each-take (Good c all) (length (drop n step.was) - m) (drop n step.was) (each-drop (Good c all) n step.was good-was)

    mid-is : Each (Good c all) (mid n m step.is)
    mid-is = each-take (Good c all) (length (drop n step.is) - m) (drop n step.is) (each-drop (Good c all) n step.is good-is)

    stay : Stay pieces
    stay = (
      λ yes. self-same step.below,
      (
        stays-told (take n step.was) (take n step.is) (each-take (Good c all) n step.was good-was) (each-take (Good c all) n step.is good-is),
        (
          stays-told (take a was-mid) (take b is-mid) (each-take (Good c all) a was-mid mid-was) (each-take (Good c all) b is-mid mid-is),
          (
            stays-told (take k (drop a was-mid)) (take k (drop b is-mid)) (each-take (Good c all) k (drop a was-mid) (each-drop (Good c all) a was-mid mid-was))
                (each-take (Good c all) k (drop b is-mid) (each-drop (Good c all) b is-mid mid-is)),
            (
              stays-told (drop k (drop a was-mid)) (drop k (drop b is-mid)) (each-drop (Good c all) k (drop a was-mid) (each-drop (Good c all) a was-mid mid-was))
                  (each-drop (Good c all) k (drop b is-mid) (each-drop (Good c all) b is-mid mid-is)),
              (
                stays-told (high n m step.was) (high n m step.is)
                    (each-drop (Good c all) (length (drop n step.was) - m) (drop n step.was) (each-drop (Good c all) n step.was good-was))
                    (each-drop (Good c all) (length (drop n step.is) - m) (drop n step.is) (each-drop (Good c all) n step.is good-is)),
                (λ yes. self-same step.above, tt),
              ),
            ),
          ),
        ),
      ),
    )

    abbrev Told : List Window → Type 0
    Told ws = Each (IsAppliedByName f changes applied) ws

    told-mid-is : Told (mid n m step.is)
    told-mid-is = each-take (IsAppliedByName f changes applied) (length (drop n step.is) - m) (drop n step.is) (each-drop (IsAppliedByName f changes applied) n step.is told-is)

    shows : (ws vs : List Window) → Told vs → Shows applied x y (piece ws vs) → marked ws vs ≡ true
    shows ws vs each h = piece-told f changes applied x y ws vs each (same-now ws vs) refl h

    never : (ws : List Window) → AreUndamaged applied ws → Shows applied x y (rest ws) → false ≡ true
    never ws none h = sym (ap (λ z. z || false) (unstruck applied x y ws none)) ∙ h

    abbrev marks-list : List Bool
    marks-list =
        false ∷ marked (take n step.was) (take n step.is) ∷ marked (take a was-mid) (take b is-mid) ∷ marked (take k (drop a was-mid)) (take k (drop b is-mid))
        ∷ marked (drop k (drop a was-mid)) (drop k (drop b is-mid)) ∷ marked (high n m step.was) (high n m step.is) ∷ false ∷ []

    undamaged : AreUndamaged applied step.below × AreUndamaged applied step.above
    undamaged = none-of-both applied step.below step.above step.undamaged

    are-marked : AreMarked applied x y pieces marks-list
    are-marked = (
      never step.below undamaged.0,
      (
        shows (take n step.was) (take n step.is) (each-take (IsAppliedByName f changes applied) n step.is told-is),
        (
          shows (take a was-mid) (take b is-mid) (each-take (IsAppliedByName f changes applied) b is-mid told-mid-is),
          (
            shows (take k (drop a was-mid)) (take k (drop b is-mid))
                (each-take (IsAppliedByName f changes applied) k (drop b is-mid) (each-drop (IsAppliedByName f changes applied) b is-mid told-mid-is)),
            (
              shows (drop k (drop a was-mid)) (drop k (drop b is-mid))
                  (each-drop (IsAppliedByName f changes applied) k (drop b is-mid) (each-drop (IsAppliedByName f changes applied) b is-mid told-mid-is)),
              (
                shows (high n m step.was) (high n m step.is)
                    (each-drop (IsAppliedByName f changes applied) (length (drop n step.is) - m) (drop n step.is)
                    (each-drop (IsAppliedByName f changes applied) n step.is told-is)),
                (never step.above undamaged.1, tt),
              ),
            ),
          ),
        ),
      ),
    )

    -- what has to be marked is marked of a piece
    some-marked : marks_at_least d e x y ≡ true → list_any (λ z. z) marks-list ≡ true
    some-marked least =
        one-marked applied x y pieces marks-list are-marked
        (pieces-marked pieces stay (subst AreDistinct (sym step.before ∙ before-is) step.distinct_before) (subst AreDistinct (sym step.after ∙ after-is) step.distinct_after)
        applied x y
        (subst (λ (ws : List Window). ((list_any (is_changed_at (afters pieces) x y) ws || list_any (is_changed_at ws x y) (afters pieces))
        || (list_any (is_damaged_at applied ws x y) (afters pieces) || is_restacked_at ws (afters pieces) x y)) ≡ true) before-is
        (subst (λ (ws : List Window). ((list_any (is_changed_at ws x y) (all_windows d) || list_any (is_changed_at (all_windows d) x y) ws)
        || (list_any (is_damaged_at applied (all_windows d) x y) ws || is_restacked_at (all_windows d) ws x y)) ≡ true) after-is
        (and-right (in_output d.output.width d.output.height x y) _ least))))

    abbrev W : List TreeWindow
    W = map (told_by f) step.was

    abbrev V : List TreeWindow
    V = map (told_by f) step.is

    told-piece : (ws vs us ts : List TreeWindow) → ws ≡ us → vs ≡ ts → marks us ts changes x y ≡ marks ws vs changes x y
    told-piece ws vs us ts g h = sym (ap₂ (λ i j. marks i j changes x y) g h)

    sorted : (p q r s z : Bool) → (false || (p || (q || (r || (s || (z || (false || false))))))) ≡ true → (p || ((q || (r || s)) || z)) ≡ true
    sorted true q r s z h = refl
    sorted false true r s z h = refl
    sorted false false true s z h = refl
    sorted false false false true z h = refl
    sorted false false false false true h = refl
    sorted false false false false false h = h

    pub around-marked : marks_at_least d e x y ≡ true
        → (marks (take n W) (take n V) changes x y
        || (marks_pieces a b k (below_top m (drop n W)) (below_top m (drop n V)) changes x y || marks (top m (drop n W)) (top m (drop n V)) changes x y)) ≡ true
    around-marked least =
        subst (λ (p : Bool). (p || (marks_pieces a b k (below_top m (drop n W)) (below_top m (drop n V)) changes x y || marks (top m (drop n W)) (top m (drop n V)) changes x y)) ≡ true)
        (told-piece (take n W) (take n V) (map (told_by f) (take n step.was)) (map (told_by f) (take n step.is)) (take-map (told_by f) n step.was) (take-map (told_by f) n step.is))
        (subst (λ (l : List TreeWindow). (marked (take n step.was) (take n step.is) || (marks_pieces a b k l (below_top m (drop n V)) changes x y
        || marks (top m (drop n W)) (top m (drop n V)) changes x y)) ≡ true) (sym (told-mid f n m step.was))
        (subst (λ (l : List TreeWindow). (marked (take n step.was) (take n step.is) || (marks_pieces a b k (map (told_by f) was-mid) l changes x y
        || marks (top m (drop n W)) (top m (drop n V)) changes x y)) ≡ true) (sym (told-mid f n m step.is))
        (subst (λ (l : List TreeWindow). (marked (take n step.was) (take n step.is) || (marks_pieces a b k (map (told_by f) was-mid) (map (told_by f) is-mid) changes x y
        || marks l (top m (drop n V)) changes x y)) ≡ true) (sym (told-high f n m step.was))
        (subst (λ (l : List TreeWindow). (marked (take n step.was) (take n step.is) || (marks_pieces a b k (map (told_by f) was-mid) (map (told_by f) is-mid) changes x y
        || marks (map (told_by f) (high n m step.was)) l changes x y)) ≡ true) (sym (told-high f n m step.is))
        (ap (λ (p : Bool). marked (take n step.was) (take n step.is) || (p || marked (high n m step.was) (high n m step.is))) pieces-told
        ∙ sorted (marked (take n step.was) (take n step.is)) (marked (take a was-mid) (take b is-mid)) (marked (take k (drop a was-mid)) (take k (drop b is-mid)))
        (marked (drop k (drop a was-mid)) (drop k (drop b is-mid))) (marked (high n m step.was) (high n m step.is)) (some-marked least))))))
      where
        drop-take : (i : ℕ) (ws : List Window) → drop i (map (told_by f) ws) ≡ map (told_by f) (drop i ws)
        drop-take i ws = drop-map (told_by f) i ws

        pieces-told : marks_pieces a b k (map (told_by f) was-mid) (map (told_by f) is-mid) changes x y
            ≡ (marked (take a was-mid) (take b is-mid) || (marked (take k (drop a was-mid)) (take k (drop b is-mid)) || marked (drop k (drop a was-mid)) (drop k (drop b is-mid))))
        pieces-told =
            ap₂ (λ (p q : Bool). p || q)
            (ap₂ (λ i j. marks i j changes x y) (take-map (told_by f) a was-mid) (take-map (told_by f) b is-mid))
            (ap₂ (λ (p q : Bool). p || q)
            (ap₂ (λ i j. marks i j changes x y) (ap (take k) (drop-map (told_by f) a was-mid) ∙ take-map (told_by f) k (drop a was-mid))
            (ap (take k) (drop-map (told_by f) b is-mid) ∙ take-map (told_by f) k (drop b is-mid)))
            (ap₂ (λ i j. marks i j changes x y) (ap (drop k) (drop-map (told_by f) a was-mid) ∙ drop-map (told_by f) k (drop a was-mid))
            (ap (drop k) (drop-map (told_by f) b is-mid) ∙ drop-map (told_by f) k (drop b is-mid))))

  pub least-around : (n m : ℕ) → marks_at_least d e x y ≡ true → marks_around n m (map (told_by f) step.was) (map (told_by f) step.is) changes x y ≡ true
  least-around n m least = at (nat_le (pixels_lifted ws vs) (pixels_lifted vs ws))
    where
      ws : List TreeWindow
      ws = below_top m (drop n (map (told_by f) step.was))

      vs : List TreeWindow
      vs = below_top m (drop n (map (told_by f) step.is))

      at : (b : Bool)
          → (marks (take n (map (told_by f) step.was)) (take n (map (told_by f) step.is)) changes x y
          || ((if b then marks_pieces (lifted ws vs) 0 (length ws - lifted ws vs) (below_top m (drop n (map (told_by f) step.was)))
          (below_top m (drop n (map (told_by f) step.is))) changes x y
          else marks_pieces 0 (lifted vs ws) (length vs - lifted vs ws) (below_top m (drop n (map (told_by f) step.was)))
          (below_top m (drop n (map (told_by f) step.is))) changes x y)
          || marks (top m (drop n (map (told_by f) step.was))) (top m (drop n (map (told_by f) step.is))) changes x y)) ≡ true
      at true = around-marked n m (lifted ws vs) 0 (length ws - lifted ws vs) least
      at false = around-marked n m 0 (lifted vs ws) (length vs - lifted vs ws) least

  -- What has to be marked is marked, where it is tree by tree.
  pub moved-least : (marks_at_least d e x y ≡ true → marks_trees (map (told_by f) step.was) (map (told_by f) step.is) changes x y ≡ true) → marks_at_least d e x y ≡ true
      → marks_moved (map (told_by f) step.was) (map (told_by f) step.is) changes x y ≡ true
  moved-least by-trees least =
      at (same_below (map (told_by f) step.was) (map (told_by f) step.is)) (same_above (drop (same_below (map (told_by f) step.was) (map (told_by f) step.is)) (map (told_by f) step.was)) (drop (same_below (map (told_by f) step.was) (map (told_by f) step.is)) (map (told_by f) step.is)))
      (moves_in_one (below_top (same_above (drop (same_below (map (told_by f) step.was) (map (told_by f) step.is)) (map (told_by f) step.was)) (drop (same_below (map (told_by f) step.was) (map (told_by f) step.is)) (map (told_by f) step.is))) (drop (same_below (map (told_by f) step.was) (map (told_by f) step.is)) (map (told_by f) step.was)))
      (below_top (same_above (drop (same_below (map (told_by f) step.was) (map (told_by f) step.is)) (map (told_by f) step.was)) (drop (same_below (map (told_by f) step.was) (map (told_by f) step.is)) (map (told_by f) step.is))) (drop (same_below (map (told_by f) step.was) (map (told_by f) step.is)) (map (told_by f) step.is))))
    where
      at : (n m : ℕ) (b : Bool) → (if b then marks_around n m (map (told_by f) step.was) (map (told_by f) step.is) changes x y else marks_trees (map (told_by f) step.was) (map (told_by f) step.is) changes x y) ≡ true
      at n m true = least-around n m least
      at n m false = by-trees least
