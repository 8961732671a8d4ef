use Rattle.std.proofs.Common.{◌≡◌, ◌≤◌, ◌-◌, length}
use Rattle.wl_server.specs.Moves.{Wrote}
use Rattle.wl_server.proofs.delivery.deliver.Given as goal

-- the first bytes were written, and no call so far counted a fault
abbrev pub invariant-loop-sent : goal.invariant-loop-sent
invariant-loop-sent g l = record {
  within : l.sent ≤ length l.bytes;
  written : Wrote g.H.Hub.writes l.fn.hub l.fn.conn l.bytes l.sent l.hub l.conn;
  calm : g.H.Hub.fault_count l.hub ≡ g.H.Hub.fault_count l.fn.hub;
}

abbrev pub decreases-loop-sent : goal.decreases-loop-sent
decreases-loop-sent g l = length l.bytes - l.sent
