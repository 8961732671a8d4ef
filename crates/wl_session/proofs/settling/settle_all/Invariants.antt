use Rattle.wl_desk.proofs.Rounds.{AreSettled}
use Rattle.wl_session.proofs.settling.settle_all.Given as goal

-- so many rounds were done
abbrev pub invariant-loop : goal.invariant-loop
invariant-loop g l = AreSettled l.counter l.fn.desk l.desk
