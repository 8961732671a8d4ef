use Rattle.wl_server.specs.Acting.{InTurn, Takes}
use Rattle.wl_server.specs.Watching.{TakesPiece}
use Rattle.wl_server.specs.Ways.{ways}
use Rattle.wl_server.proofs.hearing.read_watcher.Given as goal

-- each read so far gave a piece, which was taken
abbrev pub invariant-loop-before : goal.invariant-loop-before
invariant-loop-before g l =
    Takes g.R.Write.contents (InTurn (λ k. TakesPiece (ways g.V.Hub.accepts g.V.Hub.reads g.V.Hub.writes g.V.Hub.closes g.V.Hub.fault_count) l.time) l.before (l.fn.hub, l.fn.watcher) (l.hub, l.watcher)) l.fn.recorded l.recorded
