use Rattle.std.proofs.Common.{arith, rules}
use Rattle.wl_proto.specs.declared.interface.Interface.TheVariants.{WlShmPool}
use Rattle.wl_proto.proofs.Past.{past}
use Rattle.wl_proto.proofs.wl_shm_pool.decode.Goals as goal

pub returns-in_default : goal.returns-in_default
returns-in_default c = past WlShmPool c.args._version c.args.opcode c.args.body.now (omega arith)

pub returns-in_ok-id-in-0 : goal.returns-in_ok-id-in-0
returns-in_ok-id-in-0 c = search rules
