use Rattle.std.proofs.Common.{refl}
use Rattle.wl_surface.proofs.Shown.{gone-hidden, gone-shown}
use Rattle.wl_surface.proofs.surfaces.Surfaces.own_end.Goals as goal
use Rattle.wl_surface.proofs.surfaces.Surfaces.own_end.Goals.{then-is_shown+in_ok-push, else-is_shown}

pub returns : goal.returns
returns g c = λ all stand. elim c.if-is_shown.branch [
  | then-is_shown+in_ok-push w ↦
      rw w.changes-is
      (gone-shown c.args.surface (all c.args.surface) c.is_shown.result _ c.new-changes.result.items w.push.new.self.items (c.is_shown.ensures all stand)
      w.if-is_shown.true refl w.new.ensures.items
      c.new-changes.ensures.items w.in_ok-push.ensures.items)
  | else-is_shown w ↦
      rw w.changes-is (gone-hidden c.args.surface (all c.args.surface) c.is_shown.result c.new-changes.result.items (c.is_shown.ensures all stand) w.if-is_shown.false c.new-changes.ensures.items)
]
