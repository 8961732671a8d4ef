use Rattle.std.proofs.Common.{ap, map, sym, ◌∙◌}
use Rattle.std.specs.Option.{option_copied}
use Rattle.wl_scene.specs.Focus.{action_of}
use Rattle.wl_desk.specs.Restacking.{first_dragged}
use Rattle.wl_desk.proofs.Restacking.{change-still, none-dragged, telling-still}
use Rattle.wl_desk.proofs.desks.Desk.drag.Goals as goal

pub returns-in_default-clause-moves : goal.returns-in_default-clause-moves
returns-in_default-clause-moves g c = λ m telling known.
    telling-still c.args.self.now.desk m (first_dragged (map action_of c.args.moves.now.items) m.desktop.standing) telling
    (rw (← c.as_slice.ensures.value) (none-dragged c.as_slice.result.now (sym (ap option_copied c.in_default.is) ∙ c.first.ensures.value) m.desktop.standing))

pub returns-in_default-clause-marks : goal.returns-in_default-clause-marks
returns-in_default-clause-marks g c = λ m telling known.
    change-still c.args.self.now.desk m (first_dragged (map action_of c.args.moves.now.items) m.desktop.standing) c.args.self.now.damage telling
    (rw (← c.as_slice.ensures.value) (none-dragged c.as_slice.result.now (sym (ap option_copied c.in_default.is) ∙ c.first.ensures.value) m.desktop.standing))
