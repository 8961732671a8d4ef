use Rattle.std.proofs.Common.{arith, rules}
use Rattle.std.proofs.lemmas.Grind.{common_steps}
use Rattle.wl_client.proofs.checks.is_fit.Goals as goal

pub returns-then-arg-eq0 : goal.returns-then-arg-eq0
returns-then-arg-eq0 g c = search rules

pub returns-in-None : goal.returns-in-None
returns-in-None g c = search rules

pub returns-in-Some : goal.returns-in-Some
returns-in-Some g c = grind (arith, common_steps)
