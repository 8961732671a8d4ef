use Rattle.law_desktop.proofs.InOrder.Laws.{clients_are_in_order}
use Rattle.law_desktop.proofs.invariants.in_order.clients_are_in_order.Goals as goal

pub returns : goal.returns
returns c = clients_are_in_order
