use Rattle.std.proofs.Common.{arith}
use Rattle.wl_proto.specs.declared.interface.Interface.TheVariants.{XdgPositioner}
use Rattle.wl_proto.proofs.Past.{past}
use Rattle.wl_proto.proofs.xdg_positioner.decode.Goals as goal

pub returns-in_default-4 : goal.returns-in_default-4
returns-in_default-4 c = past XdgPositioner c.args.version c.args.opcode c.args.body.now (omega arith)
