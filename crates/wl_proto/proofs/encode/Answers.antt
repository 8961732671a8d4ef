use Rattle.std.proofs.Common.{arith}
use Rattle.wl_proto.specs.Messages.{event_message}
use Rattle.wl_proto.proofs.Encoding.{encoded, known}
use Rattle.wl_proto.proofs.encode.Goals as goal

pub returns-clause-spelled : goal.returns-clause-spelled
returns-clause-spelled g c = encoded c.args.event.now.object (event_message c.args.event.now.body) c.write.result _ _ (omega arith) (known c.args.event.now.body) c.write.ensures
