-- What a viewer holds and is owed, as plain values.
use Rattle.std.specs.Prelude.{ℕ, Bool, List, Option}
use Rattle.wl_session.specs.Damage.{Damaged}

-- what came from it: the line that it began, without a line feed; the buttons that it pressed and didn't release; the number of the sync that waits;
-- and whether it asked for the windows, and sent a line that is none
pub record Heard : Type 0 where
  pub line : List ℕ
  pub held : List ℕ
  pub sync : Option ℕ
  pub wants_windows : Bool
  pub is_bad : Bool

-- that; which points it wasn't told; the bytes that wait to be sent to it; and whether it was told that a line was bad
pub record ViewerView : Type 0 where
  pub heard : Heard
  pub untold : Damaged
  pub out : List ℕ
  pub is_over : Bool
