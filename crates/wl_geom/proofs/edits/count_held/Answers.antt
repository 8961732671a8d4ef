use Rattle.std.proofs.Common.{◌∙◌, ◌-◌, ◌+ℤ◌, pos, length, false, w32, arith}
use Rattle.std.proofs.lemmas.Int.{to_z-of_z}
use Rattle.wl_geom.specs.declared.edits.Edit.{Edit}
use Rattle.wl_geom.specs.declared.rect.Rect.{Rect}
use Rattle.wl_geom.proofs.Held.{decides, plus-none}
use Rattle.wl_geom.proofs.edits.count_held.Goals as goal

pub returns-then-edit-clause-held : goal.returns-then-edit-clause-held
returns-then-edit-clause-held c i l =
    let edits = c.args.edits.now in
    let k = length edits - 1 - c.loop-above.above in
    let rect : Rect = record { x = pos 0; y = pos 0; w = pos 0; h = pos 0 } in
    let none : Edit = record { rect = rect; adds = false } in
    let x = to_z-of_z w32 c.args.x c.ranges.x in
    let y = to_z-of_z w32 c.args.y c.ranges.y in
    let inside = simp (x, y) at (c.count_inside-inside.ensures.inside i l) in
    let below = simp (x, y) at (c.loop-above.invariant.below i (omega arith)) in
    below ∙ decides (c.args.x +ℤ pos i) c.args.y edits k (length edits - c.loop-above.above) none (omega arith) (omega arith) inside ∙ c.if-edit.true

pub returns-else-edit-clause-stops : goal.returns-else-edit-clause-stops
returns-else-edit-clause-stops c none_left =
    let edits = c.args.edits.now in
    let k = length edits - 1 - c.loop-above.above in
    let rect : Rect = record { x = pos 0; y = pos 0; w = pos 0; h = pos 0 } in
    let none : Edit = record { rect = rect; adds = false } in
    let x = to_z-of_z w32 c.args.x c.ranges.x in
    let y = to_z-of_z w32 c.args.y c.ranges.y in
    let inside = simp (x, y, plus-none c.args.x) at (c.count_inside-inside.ensures.inside 0 (omega arith)) in
    let below = simp (x, y, plus-none c.args.x) at (c.loop-above.invariant.below 0 (omega arith)) in
    below ∙ decides c.args.x c.args.y edits k (length edits - c.loop-above.above) none (omega arith) (omega arith) inside ∙ c.if-edit.false
