use Rattle.std.proofs.Common.{◌∙◌, ap}
use Rattle.wl_geom.specs.Rect.{count_at, in_rect, is_point}
use Rattle.wl_geom.proofs.Changes.{point-added, point-taken}
use Rattle.wl_geom.proofs.parts.edited.Goals as goal
use Rattle.wl_geom.proofs.parts.edited.Goals.{then-edit+in_ok-push_part, else-edit}

pub returns-clause-points : goal.returns-clause-points
returns-clause-points g c x y =
    let rect = c.args.edit.now.rect in
    elim c.if-edit.branch [
      | then-edit+in_ok-push_part w ↦ point-added _ (is_point x y) (in_rect x y rect) _ _ _ _ w.if-edit.true (c.in_ok-parts.ensures.points x y) (w.clipped.ensures.points x y)
          (ap (λ v. count_at x y v.items) w.parts-is ∙ w.in_ok-push_part.ensures.points x y)
      | else-edit w ↦ ap (λ v. count_at x y v.items) w.parts-is ∙ point-taken _ (is_point x y) (in_rect x y rect) _ _ w.if-edit.false (c.in_ok-parts.ensures.points x y)
    ]
