use Rattle.std.proofs.Common.{◌≡◌, take, None}
use Rattle.spec_desktop.specs.Act.{lowest}
use Rattle.wl_clients.proofs.clients.free_place.Given as goal

abbrev pub invariant-loop-k : goal.invariant-loop-k
invariant-loop-k g l = lowest (take l.k l.residents) ≡ None
