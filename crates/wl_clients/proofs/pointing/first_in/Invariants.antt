use Rattle.std.proofs.Common.{◌≡◌, ℕ, ◌<◌, false}
use Rattle.wl_clients.specs.Midway.{is_refused}
use Rattle.wl_clients.proofs.Desktops.{at}
use Rattle.wl_clients.proofs.pointing.first_in.Given as goal

abbrev pub invariant-loop-k : goal.invariant-loop-k
invariant-loop-k g l = (j : ℕ) → j < l.k → is_refused (at l.residents j) ≡ false
