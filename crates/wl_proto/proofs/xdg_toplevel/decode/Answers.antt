use Rattle.std.proofs.Common.{arith, rules}
use Rattle.wl_proto.specs.declared.interface.Interface.TheVariants.{XdgToplevel}
use Rattle.wl_proto.proofs.Past.{past}
use Rattle.wl_proto.proofs.xdg_toplevel.decode.Goals as goal

pub returns-in_default : goal.returns-in_default
returns-in_default c = past XdgToplevel c.args._version c.args.opcode c.args.body.now (omega arith)

pub returns-in_ok-nothing-in-9 : goal.returns-in_ok-nothing-in-9
returns-in_ok-nothing-in-9 c = search rules

pub returns-in_ok-nothing-in-10 : goal.returns-in_ok-nothing-in-10
returns-in_ok-nothing-in-10 c = search rules
