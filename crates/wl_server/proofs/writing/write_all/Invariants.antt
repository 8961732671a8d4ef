use Rattle.wl_server.specs.Acting.{InTurn, Takes}
use Rattle.wl_server.specs.Phases.{AtSeat, Writes}
use Rattle.wl_server.specs.Ways.{ways}
use Rattle.wl_server.proofs.writing.write_all.Given as goal

-- the clients up to this one were served
abbrev pub invariant-loop-k : goal.invariant-loop-k
invariant-loop-k g l =
    Takes g.R.Write.contents (InTurn (AtSeat (Writes (ways g.H.Hub.accepts g.H.Hub.reads g.H.Hub.writes g.H.Hub.closes g.H.Hub.fault_count))) l.k (l.fn.hub, l.fn.seats) (l.hub, l.seats)) l.fn.recorded l.recorded
