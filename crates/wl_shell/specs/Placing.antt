-- What the calls on a positioner answer, and how a popup lies on one axis as it is kept.
use Rattle.std.specs.Prelude.{ℕ, ℤ, pos, negsuc, ◌+ℤ◌, ◌-ℤ◌, ◌≤ℤ◌, ◌^◌, neg_ℤ, Bool, true, false, Result, Ok, Err}
use Rattle.wl_shell.specs.Positioner.{Axis}
use Rattle.wl_shell.specs.declared.error.ShellError.{ShellError}
use Rattle.wl_shell.specs.declared.error.ShellError.TheVariants.{InvalidInput}
use Rattle.wl_shell.specs.declared.placing.Axis as kept
use Rattle.wl_shell.specs.declared.placing.Bounds.{Bounds}
use Rattle.wl_shell.specs.declared.placing.Edge.{Edge}
use Rattle.wl_shell.specs.declared.placing.Edge.TheVariants.{Start, Middle, End}

-- what is set is valid, or it isn't
abbrev pub set_answer : Bool → Result Unit ShellError
set_answer true = Ok tt
set_answer false = Err InvalidInput

abbrev pub edge_of : Edge → ℤ
edge_of Start = negsuc 0
edge_of Middle = pos 0
edge_of End = pos 1

abbrev pub axis_of : kept.Axis → Axis
axis_of a = record {
  start = a.start;
  length = a.length;
  size = a.size;
  offset = a.offset;
  anchor = edge_of a.anchor;
  gravity = edge_of a.gravity;
}

-- the first place within the bounds, and the one behind the last, seen from the corner
abbrev pub first_within : Bounds → ℤ
first_within b = b.start -ℤ b.corner

abbrev pub end_within : Bounds → ℤ
end_within b = (b.start +ℤ b.length) -ℤ b.corner

-- no farther than this
abbrev pub IsUpTo : ℕ → ℤ → Type 0
IsUpTo most z = (neg_ℤ (pos most) ≤ℤ z) × (z ≤ℤ pos most)

-- no place is so far away that sums of a few of them would not fit 64 bits
abbrev pub IsNear : ℤ → Type 0
IsNear z = IsUpTo (2 ^ 40) z
