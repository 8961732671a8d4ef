use Rattle.std.proofs.Common.{arith}
use Rattle.wl_table.proofs.Ids.{allowed}
use Rattle.wl_table.proofs.objects.Objects.insert.Goals as goal

pub returns-clause-refused : goal.returns-clause-refused
returns-clause-refused g c =
    rw (allowed c.args.self.now c.args.id (omega arith) (omega arith) (cc (c.get.ensures, c.is_some.ensures)) (omega (arith, c.len.ensures))) c.put.ensures.cause
