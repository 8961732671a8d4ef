-- What is told of the windows of the output, which are in stacking order, and of what a point hits.
use Rattle.std.specs.Prelude.{ℕ, ◌≡◌, Option, Some}
use Rattle.std.specs.Option.{option_map}
use Rattle.spec_desktop.specs.Objects.{ById}
use Rattle.spec_desktop.specs.Pointer.{Target}
use Rattle.spec_desktop.specs.Windows.{Window}
use Rattle.wl_scene.specs.declared.scene.Surface.{Surface}
use Rattle.wl_scene.specs.declared.stacked.Stacked.{Stacked}
use Rattle.wl_scene.specs.declared.window.Window.{Window as Told}

-- This is told of a window: its client, its surface by its number, where its upper left corner stands on the output, and its size in surface
-- coordinates.
pub record IsTold (numbers : ℕ → ById ℕ) (told : Told) (w : Window) : Type 0 where
  pub client : told.surface.client ≡ w.owner.client
  pub surface : numbers w.owner.client w.surface ≡ Some told.surface.surface
  pub x : told.x ≡ w.corner.x
  pub y : told.y ≡ w.corner.y
  pub width : told.w ≡ w.width
  pub height : told.h ≡ w.height

-- that of a window which is kept
abbrev pub surface_of : Stacked → Surface
surface_of s = record { client = s.client; surface = s.window.surface }

abbrev pub told_of : Stacked → Told
told_of s = record { surface = surface_of s; x = s.window.x; y = s.window.y; w = s.window.w; h = s.window.h }

-- a surface of a client, by its number
abbrev pub named : Surface → Target
named s = record { client = s.client; surface = s.surface }

abbrev pub named_or_none : Option Surface → Option Target
named_or_none surface = option_map named surface
