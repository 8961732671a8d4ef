-- Two windows, one above the other.
use Rattle.std.specs.Prelude.{ℤ, List, [], ◌∷◌, Option, Some, None}
use Rattle.wl_geom.specs.Region.{Area}
use Rattle.wl_store.specs.Picture.{Shown}
use Rattle.wl_paint.specs.Window.{Window}

-- a picture as a window at this place, with this opaque region
abbrev pub window_at : ℤ → ℤ → Area → Shown → Window
window_at x y opaque picture = record { x = x; y = y; picture = picture; opaque = opaque }

-- the two windows, if both pictures can be lent
abbrev pub pair_of : Option Window → Option Window → List Window
pair_of (Some lower) (Some upper) = lower ∷ upper ∷ []
pair_of (Some lower) None = []
pair_of None upper = []
