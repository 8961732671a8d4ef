use Rattle.std.proofs.Common.{arith, sym, ◌∙◌}
use Rattle.wl_clients.proofs.Looks.{none-refuses, refuses-first, refuses-not}
use Rattle.wl_clients.proofs.pointing.first_in.Goals as goal

pub loop-k-init : goal.loop-k-init
loop-k-init g c = λ j less. absurd (omega (arith, less))

pub returns-then-is_refused-clause-first : goal.returns-then-is_refused-clause-first
returns-then-is_refused-clause-first g c =
    refuses-first _ _ _ c.loop-k-test.true c.loop-k.invariant c.index-residents-k.is (sym c.is_refused.ensures ∙ c.if-is_refused.true)

pub loop-k-preserved : goal.loop-k-preserved
loop-k-preserved g c = refuses-not _ _ _ c.loop-k-test.true c.loop-k.invariant c.index-residents-k.is (sym c.is_refused.ensures ∙ c.if-is_refused.false)

pub returns-clause-first : goal.returns-clause-first
returns-clause-first g c = none-refuses c.args.residents.now c.loop-k.k c.loop-k.invariant c.loop-k-test.false
