use Rattle.wl_proto.proofs.Streams.{events_found}
use Rattle.wl_proto.proofs.events_are_found.Goals as goal

pub returns : goal.returns
returns c = events_found
