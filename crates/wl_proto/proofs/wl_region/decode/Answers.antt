use Rattle.std.proofs.Common.{arith}
use Rattle.wl_proto.specs.declared.interface.Interface.TheVariants.{WlRegion}
use Rattle.wl_proto.proofs.Past.{past}
use Rattle.wl_proto.proofs.wl_region.decode.Goals as goal

pub returns-in_default : goal.returns-in_default
returns-in_default c = past WlRegion c.args._version c.args.opcode c.args.body.now (omega arith)
