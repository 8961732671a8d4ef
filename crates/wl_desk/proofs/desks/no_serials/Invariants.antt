use Rattle.std.proofs.Common.{◌≡◌, vec_len}
use Rattle.wl_desk.proofs.desks.no_serials.Given as goal

abbrev pub invariant-loop : goal.invariant-loop
invariant-loop g l = vec_len l.latest ≡ l.counter
