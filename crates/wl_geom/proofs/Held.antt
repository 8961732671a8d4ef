-- Points of a run that are held.
use Rattle.std.proofs.Common.{◌≡◌, ◌+◌, ◌-◌, ◌<◌, ◌≤◌, ◌^◌, ℕ, ℤ, pos, ◌+ℤ◌, Bool, true, false, cond, ◌&&◌, List, map, take, get_or, length, arith, refl, sym, ap, ◌∙◌, inl, inr, subst, w32, FitsSigned}
use Rattle.std.specs.List.{fold}
use Rattle.std.specs.Prelude.{int_lt, nat_lt, IsTrue, ◌↔◌, ◌<ℤ◌, ◌≤ℤ◌}
use Rattle.std.proofs.lemmas.Bool.Decides.{nat_tests}
use Rattle.std.proofs.lemmas.Bool.{cases_lt}
use Rattle.std.proofs.lemmas.Int.{ints}
use Rattle.std.proofs.lemmas.List.{take_all}
use Rattle.wl_geom.specs.declared.edits.Edit.{Edit}
use Rattle.wl_geom.specs.Edits.{change_of, is_held}
use Rattle.wl_geom.specs.Rect.{in_rect, in_span, is_coordinate, is_point}
use Rattle.wl_geom.specs.Region.{Change, HoldsRun, held_after, holds}
use Rattle.wl_geom.proofs.Changes.{held-of, is_held-more}

-- no number from the start on lies before a line that is not after the start
pub in_span-past : (start len from : ℤ) (n : ℕ) → nat_lt 0 n ≡ int_lt (from +ℤ pos 0) (start +ℤ len) → n ≡ 0 → in_span start len from ≡ false
in_span-past start len from n e z = grind (arith, ints, nat_tests)

pub both : (a b : Bool) → a ≡ true → b ≡ true → (a && b) ≡ true
both true b e h = h
both false b e h = e

pub not-left : (a b : Bool) → a ≡ false → (a && b) ≡ false
not-left true b e = absurd (cc)
not-left false b e = refl

pub not-right : (a b : Bool) → b ≡ false → (a && b) ≡ false
not-right true b e = e
not-right false b e = refl

-- the change at k decides, or those below it do
pub decides : (x y : ℤ) (edits : List Edit) (k n : ℕ) (d : Edit) → k < length edits → n ≡ k + 1 → in_rect x y (get_or edits k d).rect ≡ true
    → is_held x y (take n edits) ≡ (get_or edits k d).adds
decides x y edits k n d l e inside =
    ap (λ (m : ℕ). is_held x y (take m edits)) e ∙ is_held-more x y edits k d l
    ∙ ap (λ b. cond b (get_or edits k d).adds (is_held x y (take k edits))) inside

pub passes : (x y : ℤ) (edits : List Edit) (k n m : ℕ) (d : Edit) → k < length edits → n ≡ k + 1 → m ≡ k → in_rect x y (get_or edits k d).rect ≡ false
    → is_held x y (take n edits) ≡ is_held x y (take m edits)
passes x y edits k n m d l e f outside =
    ap (λ (m : ℕ). is_held x y (take m edits)) e ∙ is_held-more x y edits k d l
    ∙ ap (λ b. cond b (get_or edits k d).adds (is_held x y (take k edits))) outside
    ∙ sym (ap (λ (m : ℕ). is_held x y (take m edits)) f)

pub none : (x y : ℤ) (edits : List Edit) (n : ℕ) → n ≡ 0 → is_held x y (take n edits) ≡ false
none x y edits n e = ap (λ (m : ℕ). is_held x y (take m edits)) e

pub all_of : (x y : ℤ) (edits : List Edit) (n : ℕ) → length edits ≤ n → is_held x y edits ≡ is_held x y (take n edits)
all_of x y edits n l = ap (is_held x y) (sym (take_all n edits l))

pub plus-none : (x : ℤ) → x +ℤ pos 0 ≡ x
plus-none x = omega (arith, ints)

pub plus-plus : (x from : ℤ) (a i k : ℕ) → from ≡ x +ℤ pos a → k ≡ a + i → from +ℤ pos i ≡ x +ℤ pos k
plus-plus x from a i k e f = omega (arith, ints)

-- a part of the run more is held
pub run-more : (x from y : ℤ) (edits : List Edit) (a more n : ℕ) → from ≡ x +ℤ pos a → n ≡ a + more
    → ((i : ℕ) → i < a → is_held (x +ℤ pos i) y edits ≡ true)
    → ((i : ℕ) → i < more → is_held (from +ℤ pos i) y edits ≡ true)
    → (i : ℕ) → i < n → is_held (x +ℤ pos i) y edits ≡ true
run-more x from y edits a more n e f before here i l = elim (cases_lt i a) [
  | inl s ↦ before i s
  | inr s ↦ (let there = here (i - a) (omega arith) in subst (λ (at : ℤ). is_held at y edits ≡ true) (plus-plus x from a (i - a) i e (omega arith)) there)
]

-- the points of a run have coordinates where its end does
coordinate : (x : ℤ) (i w : ℕ) → is_coordinate x ≡ true → i < w → (x +ℤ pos w) ≤ℤ pos (2 ^ 31) → is_coordinate (x +ℤ pos i) ≡ true
coordinate x i w c l e = grind (arith, ints)

no-coordinate : (x : ℤ) (w : ℕ) → pos (2 ^ 31) <ℤ (x +ℤ pos w) → is_coordinate (x +ℤ pos (w - 1)) ≡ false
no-coordinate x w e = grind (arith, ints)

pub fits-coordinate : (x : ℤ) → FitsSigned w32 x → is_coordinate x ≡ true
fits-coordinate x f = grind (arith, ints)

-- the changes that are kept hold a point where its last one does
pub holds-of : (x y : ℤ) (edits : List Edit) → is_coordinate x ≡ true → is_coordinate y ≡ true → holds x y (map change_of edits) ≡ is_held x y edits
holds-of x y edits cx cy = ap (λ b. b && fold (held_after x y) false (map change_of edits)) (both (is_coordinate x) (is_coordinate y) cx cy) ∙ held-of x y edits

-- the changes hold a run where the point before each of them is held
pub run-held : (x y : ℤ) (w : ℕ) (edits : List Edit) (b : Bool) → is_coordinate x ≡ true → is_coordinate y ≡ true → (x +ℤ pos w) ≤ℤ pos (2 ^ 31)
    → IsTrue b ↔ ((i : ℕ) → i < w → is_held (x +ℤ pos i) y edits ≡ true)
    → IsTrue b ↔ HoldsRun x y w (map change_of edits)
run-held x y w edits b cx cy e is = (
  λ t i l. both (is_point (x +ℤ pos i) y) _ (both _ _ (coordinate x i w cx l e) cy) (held-of (x +ℤ pos i) y edits ∙ is.0 t i l),
  λ held. is.1 (λ i l. sym (held-of (x +ℤ pos i) y edits) ∙ right (is_point (x +ℤ pos i) y) _ (held i l)),
)
  where
    right : (a b : Bool) → (a && b) ≡ true → b ≡ true
    right true b e = e
    right false b e = absurd (cc)

-- no run that passes the last coordinate is held
pub run-past : (x y : ℤ) (w : ℕ) (changes : List Change) → is_coordinate x ≡ true → pos (2 ^ 31) <ℤ (x +ℤ pos w) → IsTrue false ↔ HoldsRun x y w changes
run-past x y w changes cx e = (
  λ t. absurd (cc),
  λ held. (let past = not-left _ _ (not-left _ (is_coordinate y) (no-coordinate x w e)) in absurd (differ (sym past ∙ held (w - 1) (some x w cx e)))),
)
  where
    differ : false ≡ true → ⊥
    differ e = cc

    some : (x : ℤ) (w : ℕ) → is_coordinate x ≡ true → pos (2 ^ 31) <ℤ (x +ℤ pos w) → w - 1 < w
    some x w c e = grind (arith, ints)
