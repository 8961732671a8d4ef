use Rattle.wl_paint.proofs.Colors.{colors-four}
use Rattle.wl_paint.proofs.ppm.pack_four.Goals as goal

pub returns : goal.returns
returns c = colors-four c.args.packed.now c.args.pixels.now c.args.first c.requires.there c.requires.room c.requires.before
