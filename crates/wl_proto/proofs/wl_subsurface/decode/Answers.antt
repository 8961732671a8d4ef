use Rattle.std.proofs.Common.{arith, rules}
use Rattle.wl_proto.specs.declared.interface.Interface.TheVariants.{WlSubsurface}
use Rattle.wl_proto.proofs.Past.{past}
use Rattle.wl_proto.proofs.wl_subsurface.decode.Goals as goal

pub returns-in_default : goal.returns-in_default
returns-in_default c = past WlSubsurface c.args._version c.args.opcode c.args.body.now (omega arith)

pub returns-in_ok-x-in-1 : goal.returns-in_ok-x-in-1
returns-in_ok-x-in-1 c = search rules

pub returns-in_err-x-in-1 : goal.returns-in_err-x-in-1
returns-in_err-x-in-1 c = search rules
