-- One window, at the top left corner of the output.
use Rattle.std.specs.Prelude.{pos, List, [], ◌∷◌, Option, Some, None}
use Rattle.wl_geom.specs.Region.{Area}
use Rattle.wl_store.specs.Picture.{Shown}
use Rattle.wl_paint.specs.Window.{Window}

-- the window of a picture, if it can be lent
abbrev pub window_of_picture : Area → Option Shown → List Window
window_of_picture opaque None = []
window_of_picture opaque (Some picture) = record { x = pos 0; y = pos 0; picture = picture; opaque = opaque } ∷ []
