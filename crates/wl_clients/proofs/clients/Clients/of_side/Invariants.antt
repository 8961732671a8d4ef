use Rattle.std.proofs.Common.{◌≡◌, None}
use Rattle.std.specs.Prelude.{replicate}
use Rattle.wl_clients.proofs.clients.Clients.of_side.Given as goal

abbrev pub invariant-loop : goal.invariant-loop
invariant-loop g l = l.residents.items ≡ replicate l.counter None
