use Rattle.wl_proto.proofs.Streams.{no_event_again}
use Rattle.wl_proto.proofs.no_event_begins_another.Goals as goal

pub returns : goal.returns
returns c = no_event_again
