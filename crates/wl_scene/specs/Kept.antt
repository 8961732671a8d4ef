-- What is kept of the toplevels that stand.
use Rattle.std.specs.Prelude.{ℕ, ◌+◌, ◌%◌, List}
use Rattle.wl_scene.specs.declared.scene.Toplevel.{Toplevel}
use Rattle.spec_desktop.specs.Stacking.{Standing, with_mapped}

-- The same as a program keeps them: the mapped toplevels, and which of the eight places is the next one's.
pub record Stack : Type 0 where
  pub standing : List Standing
  pub next : ℕ

-- what a mapping makes of what is kept
abbrev pub mapped_on : ℕ → ℕ → Stack → Stack
mapped_on client surface stack = record { standing = with_mapped stack.next client surface stack.standing; next = (stack.next + 1) % 8 }

abbrev pub standing_of : Toplevel → Standing
standing_of t = record { client = t.surface.client; surface = t.surface.surface; place = record { x = t.x; y = t.y } }
