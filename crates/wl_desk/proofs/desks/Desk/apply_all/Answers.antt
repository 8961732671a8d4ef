use Rattle.std.proofs.Common.{map}
use Rattle.wl_scene.specs.Focus.{action_of}
use Rattle.wl_desk.proofs.Applying.{focus-applied}
use Rattle.wl_desk.proofs.desks.Desk.apply_all.Goals as goal

pub returns-clause-tells : goal.returns-clause-tells
returns-clause-tells g c = rw (← c.as_slice.ensures.value) (focus-applied (map action_of c.as_slice.result.now) c.args.self.now.desk c.apply_each.new.self.desk c.apply_each.ensures.tells)
