use Rattle.wl_paint.proofs.Filled.{four-others, four-written}
use Rattle.wl_paint.proofs.filling.write_four.Goals as goal

pub returns-clause-written : goal.returns-clause-written
returns-clause-written c k from to = four-written c.args.pixels.now c.args.first k c.args.color c.requires from to

pub returns-clause-others : goal.returns-clause-others
returns-clause-others c k out = four-others c.args.pixels.now c.args.first k c.args.color out
