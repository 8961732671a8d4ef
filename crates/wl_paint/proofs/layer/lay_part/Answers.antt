use Rattle.std.proofs.Common.{◌+◌, ◌∙◌, ap, arith}
use Rattle.wl_store.specs.Picture.{color_at}
use Rattle.wl_blend.specs.Blend.{blended}
use Rattle.wl_paint.specs.Painting.{opaque}
use Rattle.wl_paint.proofs.Parts.{length-part, part-color, part-inside, part-outside}
use Rattle.wl_paint.proofs.layer.lay_part.Goals as goal

pub lay_colors-requires-clause-whole : goal.lay_colors-requires-clause-whole
lay_colors-requires-clause-whole c = rw (length-part c.args.run.now c.args.part.first c.args.part.count c.requires.within) (omega arith)

pub lay_colors-requires-clause-short : goal.lay_colors-requires-clause-short
lay_colors-requires-clause-short c = omega (arith, length-part c.args.run.now c.args.part.first c.args.part.count c.requires.within, c.requires.short)

pub returns-clause-inside : goal.returns-clause-inside
returns-clause-inside c = λ k in_part.
    let run = c.args.run.now in
    part-inside run c.lay_colors.new.run c.args.part.first c.args.part.count k c.requires.within c.lay_colors.auto.run in_part
    ∙ c.lay_colors.ensures k (omega (arith, in_part, length-part run c.args.part.first c.args.part.count c.requires.within))
    ∙ ap (λ u. opaque (blended u (color_at c.args.picture.now (c.args.i + k) c.args.j))) (part-color run c.args.part.first c.args.part.count k in_part)

pub returns-clause-outside : goal.returns-clause-outside
returns-clause-outside c = λ k out. part-outside c.args.run.now c.lay_colors.new.run c.args.part.first c.args.part.count k c.requires.within c.lay_colors.auto.run out
