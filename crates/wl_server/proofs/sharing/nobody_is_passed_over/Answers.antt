use Rattle.wl_server.proofs.Owing.{passed-few}
use Rattle.wl_server.proofs.sharing.nobody_is_passed_over.Goals as goal

pub returns : goal.returns
returns c = passed-few
