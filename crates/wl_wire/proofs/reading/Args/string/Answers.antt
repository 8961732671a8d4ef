use Rattle.std.proofs.Common.{arith, sym}
use Rattle.wl_wire.proofs.Counted.{text_range}
use Rattle.wl_wire.proofs.reading.Args.string.Goals as goal

pub returns-clause-spelled : goal.returns-clause-spelled
returns-clause-spelled c = text_range c.args.self.now c.self.inside.rest.now c.word_at-count.result (sym c.self.view_is) c.word_at-count.ensures.spelled (omega arith) c.if-self-whole.false
    (omega arith)
