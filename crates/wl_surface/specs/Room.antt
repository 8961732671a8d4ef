-- Room for what is told of a tree that is applied.
use Rattle.std.specs.Prelude.{◌≡◌, ◌+◌, ◌≤◌, [], length, vec_capacity, vec_len}
use Rattle.wl_surface.specs.declared.commits.Room.{Room}

-- there is room for a change of each surface, and for each buffer
pub record HasRoom {A : Type 0} (room : Room A) : Type 0 where
  pub for_changes : vec_len room.changes + length room.below.items ≤ vec_capacity room.changes
  pub no_freed : room.freed.items ≡ []
  pub for_freed : length room.shown.items ≤ vec_capacity room.freed
