use Rattle.wl_clients.proofs.LentPainted.{lends_opaque_as_said}
use Rattle.wl_clients.proofs.painting.lends_opaque_as_said.Goals as goal

pub returns : goal.returns
returns c = lends_opaque_as_said
