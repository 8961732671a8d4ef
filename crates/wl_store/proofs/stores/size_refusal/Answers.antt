use Rattle.std.proofs.Common.{arith}
use Rattle.std.proofs.lemmas.Int.{ints}
use Rattle.wl_store.proofs.stores.size_refusal.Goals as goal

pub returns-clause-first : goal.returns-clause-first
returns-clause-first c = grind (arith, ints)

pub returns-clause-grows : goal.returns-clause-grows
returns-clause-grows c = omega (arith, ints)
