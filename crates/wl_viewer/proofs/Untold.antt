-- All points of an output are marked by its bounds.
use Rattle.std.proofs.Common.{◌≡◌, ◌<◌, ◌∙◌, ◌||◌, ℕ, Bool, true, false, ap, sym, subst, refl, pos, arith}
use Rattle.std.proofs.lemmas.Int.{ints}
use Rattle.wl_geom.specs.declared.rect.Rect.{Rect}
use Rattle.wl_geom.specs.Rect.{in_rect}
use Rattle.wl_paint.specs.Damage.{Damaged, has}

in-bounds : (x y width height : ℕ) → x < width → y < height → in_rect (pos x) (pos y) (record { x = pos 0; y = pos 0; w = pos width; h = pos height }) ≡ true
in-bounds x y width height right below = grind (arith, ints)

or-true : (b : Bool) → (b || true) ≡ true
or-true true = refl
or-true false = refl

pub all-untold : (width height : ℕ) (old new : Damaged) (rect : Rect) → old.width ≡ width → old.height ≡ height
    → rect ≡ record { x = pos 0; y = pos 0; w = pos old.width; h = pos old.height }
    → ((x y : ℕ) → x < old.width → y < old.height → has new x y ≡ (has old x y || in_rect (pos x) (pos y) rect))
    → (x y : ℕ) → x < width → y < height → has new x y ≡ true
all-untold width height old new rect wide high bounds points x y right below =
    let r : x < old.width = subst (λ (n : ℕ). x < n) (sym wide) right in
    let b : y < old.height = subst (λ (n : ℕ). y < n) (sym high) below in
    points x y r b ∙ (ap (λ (q : Rect). has old x y || in_rect (pos x) (pos y) q) bounds ∙ (ap (λ (t : Bool). has old x y || t) (in-bounds x y old.width old.height r b) ∙ or-true (has old x y)))
