use Rattle.law_windows.proofs.OneToplevel.Found.{finds-toplevels}
use Rattle.law_windows.proofs.runs.lookup.finds_toplevels.Goals as goal

pub returns : goal.returns
returns c = finds-toplevels
