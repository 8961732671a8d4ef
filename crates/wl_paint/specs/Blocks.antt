-- Points in some columns and some rows.
use Rattle.std.specs.Prelude.{◌≡◌, ℕ, Bool, true, List, [], ◌&&◌, slice_index_or}
use Rattle.wl_paint.specs.declared.span.Block.{Block}
use Rattle.wl_paint.specs.Damage.{is_between, marked}

-- the point is in both the columns and the rows
abbrev pub is_in_block : ℕ → ℕ → Block → Bool
is_in_block x y block = is_between block.columns.first block.columns.end x && is_between block.rows.first block.rows.end y

-- each point of the block is marked
abbrev pub IsMarkedIn : List (List Bool) → Block → Type 0
IsMarkedIn rows block = (x y : ℕ) → is_in_block x y block ≡ true → marked (slice_index_or rows y []) x ≡ true
