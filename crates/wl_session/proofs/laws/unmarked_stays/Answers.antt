use Rattle.wl_session.proofs.Unmarked.{unmarked_stays}
use Rattle.wl_session.proofs.laws.unmarked_stays.Goals as goal

pub returns : goal.returns
returns c = unmarked_stays
