use Rattle.std.proofs.Common.{arith}
use Rattle.wl_proto.specs.declared.interface.Interface.TheVariants.{WlSurface}
use Rattle.wl_proto.proofs.Past.{past}
use Rattle.wl_proto.proofs.wl_surface.decode.Goals as goal

pub returns-in_default-4 : goal.returns-in_default-4
returns-in_default-4 c = past WlSurface c.args.version c.args.opcode c.args.body.now (omega arith)
