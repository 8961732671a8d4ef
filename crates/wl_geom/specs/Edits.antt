-- The changes of a region as they are kept.
use Rattle.std.specs.Prelude.{ℤ, Bool, false, cond, List, fold}
use Rattle.wl_geom.specs.declared.edits.Edit.{Edit}
use Rattle.wl_geom.specs.Rect.{in_rect}
use Rattle.wl_geom.specs.Region.{Change}
use Rattle.wl_geom.specs.Region.Change.{Add, Subtract}

-- the change that is kept so
abbrev pub change_of : Edit → Change
change_of edit = cond edit.adds (Add edit.rect) (Subtract edit.rect)

-- whether a point is held after one more change
abbrev pub held_by : ℤ → ℤ → Bool → Edit → Bool
held_by x y held edit = cond (in_rect x y edit.rect) edit.adds held

-- the last of the changes whose rectangle contains the point is an add
abbrev pub is_held : ℤ → ℤ → List Edit → Bool
is_held x y edits = fold (held_by x y) false edits
