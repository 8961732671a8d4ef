use Rattle.std.proofs.Common.{◌≡◌, arith}
use Rattle.wl_proto.specs.Messages.{Message, request_message, says}
use Rattle.wl_proto.specs.Spelling.{SpellsRequest, decoded}
use Rattle.wl_proto.proofs.Decoding.{decoded_spelled, spelled_decoded, no_method, given_ok, given_each, given_fault}
use Rattle.wl_proto.proofs.decode.Goals as goal

pub returns-clause-interface : goal.returns-clause-interface
returns-clause-interface c =
    given_ok request_message c.read.result (decoded c.args.interface c.args.version c.args.opcode c.args.body.now) (λ (m : Message). m.interface ≡ c.args.interface)
    (λ m e. (decoded_spelled c.args.interface c.args.version c.args.opcode c.args.body.now m (λ i. omega (arith, c.type_inv.body i)) e).0) c.read.ensures

pub returns-clause-opcode : goal.returns-clause-opcode
returns-clause-opcode c =
    given_ok request_message c.read.result (decoded c.args.interface c.args.version c.args.opcode c.args.body.now) (λ (m : Message). m.opcode ≡ c.args.opcode)
    (λ m e. (decoded_spelled c.args.interface c.args.version c.args.opcode c.args.body.now m (λ i. omega (arith, c.type_inv.body i)) e).1) c.read.ensures

pub returns-clause-spelled : goal.returns-clause-spelled
returns-clause-spelled c =
    given_ok request_message c.read.result (decoded c.args.interface c.args.version c.args.opcode c.args.body.now)
    (λ (m : Message). SpellsRequest c.args.interface c.args.version c.args.opcode m.fields c.args.body.now)
    (λ m e. (decoded_spelled c.args.interface c.args.version c.args.opcode c.args.body.now m (λ i. omega (arith, c.type_inv.body i)) e).2) c.read.ensures

pub returns-clause-each : goal.returns-clause-each
returns-clause-each c = λ fields is.
    given_each request_message c.read.result (decoded c.args.interface c.args.version c.args.opcode c.args.body.now) (says c.args.interface c.args.opcode fields)
    (spelled_decoded c.args.interface c.args.version c.args.opcode fields c.args.body.now (λ i. omega (arith, c.type_inv.body i)) is) c.read.ensures

pub returns-clause-no_method : goal.returns-clause-no_method
returns-clause-no_method c =
    given_fault request_message c.read.result (decoded c.args.interface c.args.version c.args.opcode c.args.body.now) _ (no_method c.args.interface c.args.version c.args.opcode c.args.body.now)
    c.read.ensures
