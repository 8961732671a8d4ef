use Rattle.std.proofs.Common.{◌≤◌}
use Rattle.bench_store.proofs.bench_store_create.Given as goal

abbrev pub invariant-loop : goal.invariant-loop
invariant-loop l = l.made ≤ l.counter
