use Rattle.wl_paint.proofs.Bits.{lowest_masked}
use Rattle.wl_paint.proofs.words.lowest_bit.Goals as goal

pub returns-clause-before : goal.returns-clause-before
returns-clause-before c = (lowest_masked c.args.word c.args.low c.ranges.word.fits c.requires).before

pub returns-clause-at : goal.returns-clause-at
returns-clause-at c = (lowest_masked c.args.word c.args.low c.ranges.word.fits c.requires).at

pub returns-clause-from : goal.returns-clause-from
returns-clause-from c = (lowest_masked c.args.word c.args.low c.ranges.word.fits c.requires).from
