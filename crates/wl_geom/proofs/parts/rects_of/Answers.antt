use Rattle.std.proofs.Common.{◌∙◌, pos, false}
use Rattle.wl_geom.specs.declared.edits.Edit.{Edit}
use Rattle.wl_geom.specs.declared.rect.Rect.{Rect}
use Rattle.wl_geom.proofs.Changes.{points-more}
use Rattle.wl_geom.proofs.parts.rects_of.Goals as goal

pub loop-edit-preserved : goal.loop-edit-preserved
loop-edit-preserved g c =
    let rect : Rect = record { x = pos 0; y = pos 0; w = pos 0; h = pos 0 } in
    let none : Edit = record { rect = rect; adds = false } in
    record {
      points = λ x y. (simp c.deref.ensures.value at (c.in_ok-rects.ensures.points x y))
          ∙ points-more x y c.args.edits.now c.loop-edit.edit-index none _ c.loop-edit-test.true (c.loop-edit.invariant.points x y);
      ends = c.in_ok-rects.ensures.ends;
    }
