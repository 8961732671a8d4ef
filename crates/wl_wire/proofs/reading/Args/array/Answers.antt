use Rattle.std.proofs.Common.{sym}
use Rattle.wl_wire.proofs.Counted.{block_range}
use Rattle.wl_wire.proofs.reading.Args.array.Goals as goal

pub returns-clause-spelled : goal.returns-clause-spelled
returns-clause-spelled c = block_range c.args.self.now c.self.inside.rest.now c.word_at-count.result (sym c.self.view_is) c.word_at-count.ensures.spelled c.if-self-whole.false
