use Rattle.wl_session.proofs.Stays.{stays_right}
use Rattle.wl_session.proofs.laws.stays_right.Goals as goal

pub returns : goal.returns
returns c = stays_right
