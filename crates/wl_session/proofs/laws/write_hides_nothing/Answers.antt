use Rattle.wl_session.proofs.StoreWrites.{write_hides_nothing}
use Rattle.wl_session.proofs.laws.write_hides_nothing.Goals as goal

pub returns : goal.returns
returns c = write_hides_nothing
