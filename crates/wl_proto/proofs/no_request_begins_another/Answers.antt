use Rattle.wl_proto.proofs.Streams.{no_request_again}
use Rattle.wl_proto.proofs.no_request_begins_another.Goals as goal

pub returns : goal.returns
returns c = no_request_again
