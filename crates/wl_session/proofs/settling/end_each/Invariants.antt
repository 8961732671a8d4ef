use Rattle.wl_desk.proofs.Struck.{AreOver}
use Rattle.wl_session.proofs.settling.end_each.Given as goal

-- so many ended
abbrev pub invariant-loop : goal.invariant-loop
invariant-loop g l = AreOver l.counter l.fn.desk l.desk
