use Rattle.wl_proto.proofs.Streams.{requests_found}
use Rattle.wl_proto.proofs.requests_are_found.Goals as goal

pub returns : goal.returns
returns c = requests_found
