use Rattle.wl_recording.specs.Side.{files_of}
use Rattle.wl_server.specs.Acting.{InTurn, Takes}
use Rattle.wl_server.specs.Phases.{AtSeat}
use Rattle.wl_server.specs.Sharing.{SharesSeat}
use Rattle.wl_server.specs.Ways.{ways}
use Rattle.wl_server.proofs.sharing.share_each.Given as goal

-- the clients up to this one were served
abbrev pub invariant-loop-k : goal.invariant-loop-k
invariant-loop-k g l =
    Takes g.R.Write.contents (InTurn (AtSeat (SharesSeat (ways g.H.Hub.accepts g.H.Hub.reads g.H.Hub.writes g.H.Hub.closes g.H.Hub.fault_count) (files_of g.S.SideFiles.opens g.S.SideFiles.gives g.S.SideFiles.fault_count) l.share.paid)) l.k
    ((l.fn.hub, l.fn.side), l.fn.seats) ((l.hub, l.side), l.seats)) l.fn.recorded l.recorded
