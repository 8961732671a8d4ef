use Rattle.wl_clients.specs.Holders.{NoneHolds}
use Rattle.wl_clients.proofs.grabs.holder_in.Given as goal

abbrev pub invariant-loop-k : goal.invariant-loop-k
invariant-loop-k g l = NoneHolds l.k l.residents
