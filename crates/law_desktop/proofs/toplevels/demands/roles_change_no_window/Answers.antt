use Rattle.law_desktop.proofs.RootsOf.Demands.{roles-change}
use Rattle.law_desktop.proofs.toplevels.demands.roles_change_no_window.Goals as goal

pub returns : goal.returns
returns c = roles-change
