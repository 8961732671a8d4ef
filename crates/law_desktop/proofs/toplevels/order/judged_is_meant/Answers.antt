use Rattle.law_desktop.proofs.RootsOf.Meant.{judged-is-meant}
use Rattle.law_desktop.proofs.toplevels.order.judged_is_meant.Goals as goal

pub returns : goal.returns
returns c = judged-is-meant
