use Rattle.law_desktop.proofs.Isolation.Own.{own_stays}
use Rattle.law_desktop.proofs.desktop.own_stays.Goals as goal

pub returns : goal.returns
returns c = own_stays
