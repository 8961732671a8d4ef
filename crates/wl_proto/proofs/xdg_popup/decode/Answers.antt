use Rattle.std.proofs.Common.{arith}
use Rattle.wl_proto.specs.declared.interface.Interface.TheVariants.{XdgPopup}
use Rattle.wl_proto.proofs.Past.{past}
use Rattle.wl_proto.proofs.xdg_popup.decode.Goals as goal

pub returns-in_default-2 : goal.returns-in_default-2
returns-in_default-2 c = past XdgPopup c.args.version c.args.opcode c.args.body.now (omega arith)
