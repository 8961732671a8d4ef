use Rattle.wl_recording.specs.Side.{files_of}
use Rattle.wl_server.specs.Acting.{InTurn, Takes}
use Rattle.wl_server.specs.Phases.{Fills}
use Rattle.wl_server.proofs.filling.fill_all.Given as goal

-- the clients up to this one got their side files
abbrev pub invariant-loop-k : goal.invariant-loop-k
invariant-loop-k g l =
    Takes g.R.Write.contents (InTurn (Fills (files_of g.S.SideFiles.opens g.S.SideFiles.gives g.S.SideFiles.fault_count) l.seats) l.k l.fn.side l.side) l.fn.recorded l.recorded
