use Rattle.std.proofs.Common.{inl, inr, arith}
use Rattle.wl_clients.proofs.Seats.{past}
use Rattle.wl_clients.proofs.clients.place_of.Goals as goal
use Rattle.wl_clients.proofs.clients.place_of.Goals.{then-client-eq0-via-then-client-eq0, then-client-eq0-via-else-client-eq0+then-client-residents}

pub returns-then-client-eq0-clause-none : goal.returns-then-client-eq0-clause-none
returns-then-client-eq0-clause-none g c = past c.args.residents.now c.args.client (elim c.then-client-eq0.branch [
  | then-client-eq0-via-then-client-eq0 w ↦ inl (omega (arith, w.if-client-eq0.true))
  | then-client-eq0-via-else-client-eq0+then-client-residents w ↦ inr (omega (arith, w.if-client-residents.true))
])
