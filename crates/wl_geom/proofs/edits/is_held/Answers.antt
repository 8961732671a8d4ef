use Rattle.std.proofs.Common.{◌∙◌, ◌-◌, pos, length, false, sym, w32, arith}
use Rattle.std.proofs.lemmas.Int.{to_z-of_z}
use Rattle.wl_geom.specs.declared.edits.Edit.{Edit}
use Rattle.wl_geom.specs.declared.rect.Rect.{Rect}
use Rattle.wl_geom.proofs.Held.{decides}
use Rattle.wl_geom.proofs.edits.is_held.Goals as goal

pub returns-then-contains : goal.returns-then-contains
returns-then-contains c =
    let edits = c.args.edits.now in
    let above = c.loop-above.above in
    let rect : Rect = record { x = pos 0; y = pos 0; w = pos 0; h = pos 0 } in
    let none : Edit = record { rect = rect; adds = false } in
    let x = to_z-of_z w32 c.args.x c.ranges.x in
    let y = to_z-of_z w32 c.args.y c.ranges.y in
    let inside = simp (x, y) at (sym c.contains.ensures ∙ c.if-contains.true) in
    let below = simp (x, y) at c.loop-above.invariant in
    sym (below ∙ decides c.args.x c.args.y edits (length edits - 1 - above) (length edits - above) none (omega arith) (omega arith) inside)
