use Rattle.std.proofs.Common.{◌≤◌, false}
use Rattle.wl_server.specs.Acting.{Takes}
use Rattle.wl_server.specs.Ways.{ways}
use Rattle.wl_server.proofs.FedPieces.{FedSoFar}
use Rattle.wl_server.proofs.sharing.read_client.Given as goal

-- each read so far fed a piece
abbrev pub invariant-loop-before : goal.invariant-loop-before
invariant-loop-before g l = record {
  fed : Takes g.R.Write.contents (FedSoFar (ways g.H.Hub.accepts g.H.Hub.reads g.H.Hub.writes g.H.Hub.closes g.H.Hub.fault_count) l.client l.before (l.fn.hub, record l.fn.seat { has_sent = false }) (l.hub, l.seat)) l.fn.recorded l.recorded;
  least : 8 ≤ l.piece;
  most : l.piece ≤ 4096;
}
