use Rattle.law_desktop.proofs.InOrder.Laws.{demands_keep_in_order}
use Rattle.law_desktop.proofs.invariants.in_order.demands_keep_in_order.Goals as goal

pub returns : goal.returns
returns c = demands_keep_in_order
