-- What is marked by one call after another.
use Rattle.std.proofs.Common.{◌≡◌, ℕ, ◌-◌, ℤ, List, pos, Bool, true, false, ap, ap₂, drop, length, sym, take, ◌∙◌}
use Rattle.std.specs.Prelude.{◌||◌, if◌then◌else◌, nat_le}
use Rattle.std.proofs.Math.Bool.{or_assoc}
use Rattle.wl_paint.specs.Damage.{Damaged, has}
use Rattle.wl_scene.specs.Marking.{AddsPoints, IsAsLarge}
use Rattle.wl_scene.specs.Repaint.{marks}
use Rattle.wl_scene.specs.declared.tree_window.TreeWindow.{TreeWindow}
use Rattle.wl_surface.specs.declared.applied.Change.{Change}
use Rattle.wl_clients.specs.Staying.{below_top, lifted, marks_around, marks_past, marks_pieces, pixels_lifted, top}

adds-both : (p q : ℤ → ℤ → Bool) (old mid new : Damaged) → AddsPoints p old mid → IsAsLarge old mid → AddsPoints q mid new → AddsPoints (λ x y. p x y || q x y) old new
adds-both p q old mid new one sides other x y wide high =
    other x y (rw sides.width wide) (rw sides.height high) ∙ ap (λ b. b || q (pos x) (pos y)) (one x y wide high)
    ∙ or_assoc (has old x y) (p (pos x) (pos y)) (q (pos x) (pos y))

adds-three : (p q r : ℤ → ℤ → Bool) (old one two new : Damaged) → AddsPoints p old one → IsAsLarge old one → AddsPoints q one two → IsAsLarge one two → AddsPoints r two new
    → AddsPoints (λ x y. p x y || (q x y || r x y)) old new
adds-three p q r old one two new first sides second more third =
    adds-both p (λ x y. q x y || r x y) old one new first sides (adds-both q r one two new second more third)

-- what is marked of other windows that are the same
same-marks : {A : Type 0} (ws us vs ts : List TreeWindow) (changes : List (Change A)) (old new : Damaged) → ws ≡ us → vs ≡ ts → AddsPoints (marks ws vs changes) old new
    → AddsPoints (marks us ts changes) old new
same-marks ws us vs ts changes old new e f adds x y wide high =
    adds x y wide high ∙ ap₂ (λ a b. has old x y || marks a b changes (pos x) (pos y)) e f

same-past : {A : Type 0} (ws us vs ts : List TreeWindow) (changes : List (Change A)) (old new : Damaged) → ws ≡ us → vs ≡ ts → AddsPoints (marks_past ws vs changes) old new
    → AddsPoints (marks_past us ts changes) old new
same-past ws us vs ts changes old new e f adds x y wide high =
    adds x y wide high ∙ ap₂ (λ a b. has old x y || marks_past a b changes (pos x) (pos y)) e f

module _ {A : Type 0} (changes : List (Change A)) (was is low_was low_is rest_was rest_is mid_was mid_is high_was high_is : List TreeWindow) (old one two new : Damaged) where
  -- windows in three pieces
  pub pieces-added : (a b n : ℕ) → low_was ≡ take a was → low_is ≡ take b is → rest_was ≡ drop a was → rest_is ≡ drop b is → mid_was ≡ take n rest_was → mid_is ≡ take n rest_is
      → high_was ≡ drop n rest_was → high_is ≡ drop n rest_is → AddsPoints (marks low_was low_is changes) old one → IsAsLarge old one
      → AddsPoints (marks mid_was mid_is changes) one two → IsAsLarge one two → AddsPoints (marks high_was high_is changes) two new
      → AddsPoints (marks_pieces a b n was is changes) old new
  pieces-added a b n lw li rw' ri mw mi hw hi first sides second more third =
      adds-three (λ x y. marks (take a was) (take b is) changes x y) (λ x y. marks (take n (drop a was)) (take n (drop b is)) changes x y)
      (λ x y. marks (drop n (drop a was)) (drop n (drop b is)) changes x y) old one two new
      (same-marks low_was (take a was) low_is (take b is) changes old one lw li first) sides
      (same-marks mid_was (take n (drop a was)) mid_is (take n (drop b is)) changes one two (mw ∙ ap (take n) rw') (mi ∙ ap (take n) ri) second) more
      (same-marks high_was (drop n (drop a was)) high_is (drop n (drop b is)) changes two new (hw ∙ ap (drop n) rw') (hi ∙ ap (drop n) ri) third)

  -- windows between those that stay
  pub around-added : (n m : ℕ) → low_was ≡ take n was → low_is ≡ take n is → rest_was ≡ drop n was → rest_is ≡ drop n is → mid_was ≡ below_top m rest_was
      → mid_is ≡ below_top m rest_is → high_was ≡ top m rest_was → high_is ≡ top m rest_is → AddsPoints (marks low_was low_is changes) old one → IsAsLarge old one
      → AddsPoints (marks_past mid_was mid_is changes) one two → IsAsLarge one two → AddsPoints (marks high_was high_is changes) two new
      → AddsPoints (marks_around n m was is changes) old new
  around-added n m lw li rw' ri mw mi hw hi first sides second more third =
      adds-three (λ x y. marks (take n was) (take n is) changes x y) (λ x y. marks_past (below_top m (drop n was)) (below_top m (drop n is)) changes x y)
      (λ x y. marks (top m (drop n was)) (top m (drop n is)) changes x y) old one two new
      (same-marks low_was (take n was) low_is (take n is) changes old one lw li first) sides
      (same-past mid_was (below_top m (drop n was)) mid_is (below_top m (drop n is)) changes one two (mw ∙ ap (below_top m) rw') (mi ∙ ap (below_top m) ri) second) more
      (same-marks high_was (top m (drop n was)) high_is (top m (drop n is)) changes two new (hw ∙ ap (top m) rw') (hi ∙ ap (top m) ri) third)

-- windows that moved past others, by which have fewer pixels
module _ {A : Type 0} (changes : List (Change A)) (was is : List TreeWindow) (old new : Damaged) (up_pixels down_pixels count : ℕ) where
  abbrev marks-by : Bool → ℤ → ℤ → Bool
  marks-by b x y =
      if b then marks_pieces (lifted was is) 0 (length was - lifted was is) was is changes x y
      else marks_pieces 0 (lifted is was) (length is - lifted is was) was is changes x y

  pub up-added : count ≡ lifted was is → up_pixels ≡ pixels_lifted was is → down_pixels ≡ pixels_lifted is was → nat_le up_pixels down_pixels ≡ true
      → AddsPoints (marks_pieces count 0 (length was - count) was is changes) old new → AddsPoints (marks_past was is changes) old new
  up-added e f g few adds x y wide high =
      adds x y wide high ∙ ap (λ n. has old x y || marks_pieces n 0 (length was - n) was is changes (pos x) (pos y)) e
      ∙ ap (λ b. has old x y || marks-by b (pos x) (pos y)) (sym (ap₂ (λ i j. nat_le i j) (sym f) (sym g) ∙ few))

  pub down-added : count ≡ lifted is was → up_pixels ≡ pixels_lifted was is → down_pixels ≡ pixels_lifted is was → nat_le up_pixels down_pixels ≡ false
      → AddsPoints (marks_pieces 0 count (length is - count) was is changes) old new → AddsPoints (marks_past was is changes) old new
  down-added e f g many adds x y wide high =
      adds x y wide high ∙ ap (λ n. has old x y || marks_pieces 0 n (length is - n) was is changes (pos x) (pos y)) e
      ∙ ap (λ b. has old x y || marks-by b (pos x) (pos y)) (sym (ap₂ (λ i j. nat_le i j) (sym f) (sym g) ∙ many))
