use Rattle.std.proofs.Common.{ap, sym, ◌∙◌}
use Rattle.std.proofs.lemmas.List.{take_all}
use Rattle.spec_desktop.specs.Act.{lowest}
use Rattle.wl_clients.proofs.Desktops.{lowest-here, lowest-on}
use Rattle.wl_clients.proofs.clients.free_place.Goals as goal

pub returns-then-is_none-clause-lowest : goal.returns-then-is_none-clause-lowest
returns-then-is_none-clause-lowest g c = lowest-here _ _ _ c.loop-k-test.true c.loop-k.invariant c.index-residents-k.is c.if-is_none.ensures

pub loop-k-preserved : goal.loop-k-preserved
loop-k-preserved g c = lowest-on _ _ _ c.loop-k-test.true c.loop-k.invariant c.index-residents-k.is c.if-is_none.ensures

pub returns-clause-lowest : goal.returns-clause-lowest
returns-clause-lowest g c = sym (ap lowest (sym (take_all c.loop-k.k c.args.residents.now c.loop-k-test.false)) ∙ c.loop-k.invariant)
