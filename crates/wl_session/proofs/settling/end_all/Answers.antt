use Rattle.std.proofs.Common.{refl}
use Rattle.wl_desk.proofs.Rests.{left-all}
use Rattle.wl_desk.proofs.Rounds.{ends-not}
use Rattle.wl_session.proofs.settling.end_all.Goals as goal

pub returns-in_default-clause-ends : goal.returns-in_default-clause-ends
returns-in_default-clause-ends g c = ends-not c.args.desk.now c.in_default.ensures.first

pub returns-in_default-clause-sides : goal.returns-in_default-clause-sides
returns-in_default-clause-sides g c = record { width = refl; height = refl }

pub returns-in_default-clause-rests : goal.returns-in_default-clause-rests
returns-in_default-clause-rests g c = left-all c.args.desk.now.desk.kept

pub returns-clause-ends : goal.returns-clause-ends
returns-clause-ends g c = λ m midway settled. c.settle_all.ensures.settles m (record { midway = midway; known = λ yes. settled })
