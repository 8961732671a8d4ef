use Rattle.wl_server.proofs.recorded.Recorded.is_recorded.Goals as goal

pub returns : goal.returns
returns g c = rw (← c.self.view_is) c.self.invariant
