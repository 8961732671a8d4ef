use Rattle.wl_surface.proofs.Gone.{callbacks-gone, waiting-gone}
use Rattle.std.proofs.Common.{rules, ◌∙◌}
use Rattle.wl_surface.proofs.states.SurfaceStates.destroy.Goals as goal

pub returns-clause-callbacks : goal.returns-clause-callbacks
returns-clause-callbacks g c = search rules

pub returns-clause-frames : goal.returns-clause-frames
returns-clause-frames g c = search rules

pub returns-clause-ids : goal.returns-clause-ids
returns-clause-ids g c = λ all cs are. returns-clause-callbacks g c ∙ callbacks-gone c.args.surface all c.args.self.now.frames cs are

pub returns-clause-waits : goal.returns-clause-waits
returns-clause-waits g c = λ all cs are. rw (returns-clause-frames g c) (waiting-gone c.args.surface all c.args.self.now.frames cs are)
