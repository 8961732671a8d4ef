use Rattle.law_desktop.proofs.RootsOf.Orders.{in-order-has-trees}
use Rattle.law_desktop.proofs.toplevels.order.in_order_has_trees.Goals as goal

pub returns : goal.returns
returns c = in-order-has-trees
