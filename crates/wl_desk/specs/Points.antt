-- Where a surface is told that the pointer is.
use Rattle.std.specs.Prelude.{ℤ, Option, Some, None}
use Rattle.spec_desktop.specs.Pointer.{fixed_from}
use Rattle.spec_desktop.specs.Windows.{Place, Window}

-- where the pointer is in a surface that has this window: from the upper left corner, as 24.8 fixed numbers
abbrev pub point_told : Option Place → Option Window → Option (ℤ × ℤ)
point_told None w = None
point_told (Some at) None = None
point_told (Some at) (Some w) = Some (fixed_from at.x w.corner.x, fixed_from at.y w.corner.y)
