use Rattle.wl_surface.proofs.Framed.{waiting-framed}
use Rattle.wl_surface.proofs.Waiting.{frame-changes}
use Rattle.wl_surface.proofs.states.SurfaceStates.frame.Goals as goal

pub returns-clause-ok : goal.returns-clause-ok
returns-clause-ok g c = λ n. rw (← c.self.view_is) (frame-changes c.self.inside.slots.slots _ _ c.args.surface n)

pub returns-clause-waits : goal.returns-clause-waits
returns-clause-waits g c = λ all cs stand are there n new.
    rw (c.in_ok-push.ensures.items)
    (waiting-framed c.self.inside.slots.slots c.self.inside.frames.items all (rw (← c.self.view_is) at stand) c.args.surface n c.args.callback c.self.inside.frames.items cs there new
    (rw (← c.self.view_is) at are))
