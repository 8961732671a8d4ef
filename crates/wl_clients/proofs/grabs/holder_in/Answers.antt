use Rattle.std.proofs.Common.{arith}
use Rattle.wl_clients.proofs.Holders.{holds-first, holds-not, none-holds}
use Rattle.wl_clients.proofs.grabs.holder_in.Goals as goal

pub loop-k-init : goal.loop-k-init
loop-k-init g c = λ j less. absurd (omega (arith, less))

pub returns-then-holds_grab-clause-some : goal.returns-then-holds_grab-clause-some
returns-then-holds_grab-clause-some g c =
    holds-first _ _ _ _ c.loop-k-test.true c.loop-k.invariant c.index-residents-k.is c.holds_grab.ensures c.if-holds_grab.true

pub loop-k-preserved : goal.loop-k-preserved
loop-k-preserved g c = holds-not _ _ _ _ c.loop-k-test.true c.loop-k.invariant c.index-residents-k.is c.holds_grab.ensures c.if-holds_grab.false

pub returns-clause-none : goal.returns-clause-none
returns-clause-none g c = none-holds c.args.residents.now c.loop-k.k c.loop-k.invariant c.loop-k-test.false
