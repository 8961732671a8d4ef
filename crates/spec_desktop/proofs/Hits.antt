-- What a point hits.
use Rattle.std.proofs.Common.{◌≡◌, List, [], ◌∷◌, ◌++◌, Option, Some, None, true, refl}
use Rattle.std.specs.Prelude.{ℤ, fold}
use Rattle.spec_desktop.specs.Windows.{Window, hit_after, is_hit}
use Rattle.spec_desktop.specs.HitLaws.{TopmostIsHit}

last_hit : (x y : ℤ) (found : Option Window) (below : List Window) (top : Window) → is_hit x y top ≡ true → fold (hit_after x y) found (below ++ top ∷ []) ≡ Some top
last_hit x y found [] top h = rw h refl
last_hit x y found (w ∷ ws) top h = last_hit x y (hit_after x y found w) ws top h

pub topmost_is_hit : TopmostIsHit
topmost_is_hit x y below top h = last_hit x y None below top h
