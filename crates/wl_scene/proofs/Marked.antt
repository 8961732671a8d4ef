-- What loops over windows and changes mark on an output.
use Rattle.std.proofs.Common.{◌≡◌, ◌<◌, ◌+◌, ℕ, ℤ, pos, Bool, true, false, List, [], ◌∷◌, length, take, get_or, refl, ap, sym, ◌∙◌}
use Rattle.std.specs.Prelude.{◌==◌, ◌&&◌, ◌||◌}
use Rattle.std.specs.List.{list_any}
use Rattle.std.proofs.Math.Bool.{or_assoc}
use Rattle.std.proofs.lemmas.List.Folds.{list_any_more}
use Rattle.wl_paint.specs.Damage.{Damaged, has}
use Rattle.wl_geom.specs.declared.rect.Rect.{Rect}
use Rattle.wl_scene.specs.Marking.{AddsPoints, IsAsLarge}
use Rattle.wl_surface.specs.declared.applied.Change.{Change}
use Rattle.wl_scene.specs.declared.tree_window.TreeWindow.{TreeWindow}
use Rattle.wl_scene.specs.Repaint.{is_damaged_by, is_window_damaged, window_has}

-- What is damaged is what was, and the points that one of these has. The output is as large.
pub record IsMarked {X : Type 0} (p : ℤ → ℤ → X → Bool) (xs : List X) (old new : Damaged) : Type 0 where
  pub points : AddsPoints (λ x y. list_any (p x y) xs) old new
  pub sides : IsAsLarge old new

-- the points of one more
pub marked-more : {X : Type 0} (p : ℤ → ℤ → X → Bool) (xs : List X) (n : ℕ) (d : X) (old was new : Damaged) → n < length xs
    → IsMarked p (take n xs) old was → AddsPoints (λ x y. p x y (get_or xs n d)) was new → IsAsLarge was new → IsMarked p (take (n + 1) xs) old new
marked-more p xs n d old was new less is more sides = record {
  points = λ x y wide high.
      more x y (rw is.sides.width wide) (rw is.sides.height high)
      ∙ ap (λ b. b || p (pos x) (pos y) (get_or xs n d)) (is.points x y wide high)
      ∙ or_assoc (has old x y) (list_any (p (pos x) (pos y)) (take n xs)) (p (pos x) (pos y) (get_or xs n d))
      ∙ ap (λ b. has old x y || b) (sym (list_any_more (p (pos x) (pos y)) xs n d less));
  sides = record { width = sides.width ∙ is.sides.width; height = sides.height ∙ is.sides.height };
}

-- nothing more is damaged
pub nothing-more : (was more : Bool) → more ≡ false → was ≡ (was || more)
nothing-more true more none = refl
nothing-more false more none = sym none

-- a change without damage has no point
pub undamaged : {A : Type 0} (c : Change A) (windows : List TreeWindow) (x y : ℤ) → c.rects.items ≡ [] → is_damaged_by windows x y c ≡ false
undamaged c [] x y none = refl
undamaged c (w ∷ ws) x y none = ap (λ b. b || is_damaged_by ws x y c) (ap (λ b. (c.surface == w.surface) && b) (nowhere w) ∙ and-false (c.surface == w.surface)) ∙ undamaged c ws x y none
  where
    and-false : (b : Bool) → (b && false) ≡ false
    and-false true = refl
    and-false false = refl

    nowhere : (w : TreeWindow) → is_window_damaged c.rects.items x y w ≡ false
    nowhere w =
        ap (λ (rs : List Rect). is_window_damaged rs x y w) none
        ∙ ap (λ b. window_has x y w && b) (and-false _) ∙ and-false (window_has x y w)
