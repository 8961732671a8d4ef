use Rattle.std.proofs.Common.{arith}
use Rattle.wl_paint.proofs.Shown.{Shows-same}
use Rattle.wl_paint.proofs.Parts.{length-part, part-inside, part-outside}
use Rattle.wl_paint.proofs.painting.paint_part.Goals as goal

pub paint_run-requires-clause-whole : goal.paint_run-requires-clause-whole
paint_run-requires-clause-whole g c = rw (length-part c.args.pixels.now c.args.part.first c.args.part.count c.requires.within) (omega arith)

pub paint_run-requires-clause-short : goal.paint_run-requires-clause-short
paint_run-requires-clause-short g c = omega (arith, length-part c.args.pixels.now c.args.part.first c.args.part.count c.requires.within, c.requires.short)

pub returns-clause-inside : goal.returns-clause-inside
returns-clause-inside g c = λ i in_part.
    let pixels = c.args.pixels.now in
    Shows-same _ _ _ _ (part-inside pixels c.paint_run.new.run c.args.part.first c.args.part.count i c.requires.within c.paint_run.auto.run in_part)
    (c.paint_run.ensures i (omega (arith, in_part, length-part pixels c.args.part.first c.args.part.count c.requires.within)))

pub returns-clause-outside : goal.returns-clause-outside
returns-clause-outside g c = λ k out. part-outside c.args.pixels.now c.paint_run.new.run c.args.part.first c.args.part.count k c.requires.within c.paint_run.auto.run out
