use Rattle.law_windows.proofs.OneToplevel.Found.{finds-toplevels-in-order}
use Rattle.law_windows.proofs.runs.lookup.finds_toplevels_in_order.Goals as goal

pub returns : goal.returns
returns c = finds-toplevels-in-order
