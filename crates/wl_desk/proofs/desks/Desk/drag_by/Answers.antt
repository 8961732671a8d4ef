use Rattle.wl_scene.specs.Focus.{action_of}
use Rattle.wl_desk.specs.Restacking.{dragged}
use Rattle.wl_desk.proofs.Restacking.{change-still, not-moved, telling-still}
use Rattle.wl_desk.proofs.desks.Desk.drag_by.Goals as goal

pub returns-in_default-clause-moves : goal.returns-in_default-clause-moves
returns-in_default-clause-moves g c = λ m telling known.
    telling-still c.args.self.now.desk m (dragged (action_of c.args.action) m.desktop.standing) telling (not-moved c.args.action c.in_default.not-MoveWindow m.desktop.standing)

pub returns-in_default-clause-marks : goal.returns-in_default-clause-marks
returns-in_default-clause-marks g c = λ m telling known.
    change-still c.args.self.now.desk m (dragged (action_of c.args.action) m.desktop.standing) c.args.self.now.damage telling
    (not-moved c.args.action c.in_default.not-MoveWindow m.desktop.standing)
