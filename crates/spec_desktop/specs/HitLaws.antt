-- Laws of the stacking order.
use Rattle.std.specs.Prelude.{◌≡◌, ℤ, List, [], ◌∷◌, ◌++◌, Some, true}
use Rattle.spec_desktop.specs.Windows.{Window, hit, is_hit}

-- The topmost window that takes a point's input is the one that it hits.
abbrev pub TopmostIsHit : Type 0
TopmostIsHit = (x y : ℤ) (below : List Window) (top : Window) → is_hit x y top ≡ true → hit x y (below ++ top ∷ []) ≡ Some top
