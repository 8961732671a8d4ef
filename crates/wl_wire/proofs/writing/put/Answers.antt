use Rattle.std.proofs.Common.{◌≡◌, arith, length}
use Rattle.wl_wire.proofs.CutBack.{cut_back}
use Rattle.wl_wire.proofs.ReadAgain.{spelled_as_written}
use Rattle.wl_wire.proofs.writing.put.Goals as goal

pub returns-clause-spelled : goal.returns-clause-spelled
returns-clause-spelled g c = spelled_as_written c.args.object c.args.opcode _ (omega arith) (omega arith) (omega (arith, c.in-Some.ensures.some.0, c.in-Some.ensures.some.1))

pub returns-then-is_err-clause-err : goal.returns-then-is_err-clause-err
returns-then-is_err-clause-err g c =
    let old = c.args.out.now.items in
    let long : length old ≡ c.len-len.result = omega (arith, c.len-len.ensures, c.args.out.now.ok.0) in
    cut_back c.put_message-written.result old c.put_message-written.new.out.items c.truncate.new.self.items c.len-len.result
    c.if-is_err.ensures.value c.put_message-written.ensures.err long c.truncate.ensures.items
