use Rattle.wl_server.specs.Phases.{AcceptsSome}
use Rattle.wl_server.specs.Telling.{Reports}
use Rattle.wl_server.specs.Ways.{ways}
use Rattle.wl_server.proofs.accepting.accept_all.Given as goal

-- so many were accepted, and told of
abbrev pub invariant-loop-before : goal.invariant-loop-before
invariant-loop-before g l =
    Reports g.R.Write.contents (AcceptsSome (ways g.H.Hub.accepts g.H.Hub.reads g.H.Hub.writes g.H.Hub.closes g.H.Hub.fault_count) l.before
    (l.fn.hub, record { accepted = l.fn.accepted; seats = l.fn.seats }) (l.hub, record { accepted = l.accepted; seats = l.seats }))
    l.fn.recorded l.recorded (g.W.Write.contents l.fn.report) (g.W.Write.contents l.report)
