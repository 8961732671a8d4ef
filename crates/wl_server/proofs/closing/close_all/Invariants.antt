use Rattle.wl_server.specs.Acting.{InTurn}
use Rattle.wl_server.specs.Phases.{AtSeat, Closes}
use Rattle.wl_server.specs.Telling.{Reports}
use Rattle.wl_server.specs.Ways.{ways}
use Rattle.wl_server.proofs.closing.close_all.Given as goal

-- those of the clients up to this one that ended were closed, and told of
abbrev pub invariant-loop-k : goal.invariant-loop-k
invariant-loop-k g l =
    Reports g.R.Write.contents (InTurn (AtSeat (Closes (ways g.H.Hub.accepts g.H.Hub.reads g.H.Hub.writes g.H.Hub.closes g.H.Hub.fault_count))) l.k (l.fn.hub, l.fn.seats) (l.hub, l.seats))
    l.fn.recorded l.recorded (g.W.Write.contents l.fn.report) (g.W.Write.contents l.report)
