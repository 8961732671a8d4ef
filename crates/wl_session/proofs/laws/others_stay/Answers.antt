use Rattle.wl_session.proofs.Untold.{others_stay}
use Rattle.wl_session.proofs.laws.others_stay.Goals as goal

pub returns : goal.returns
returns c = others_stay
