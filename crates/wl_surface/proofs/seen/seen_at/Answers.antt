use Rattle.std.proofs.Common.{◌∙◌}
use Rattle.wl_surface.proofs.Sights.{seen-here, seen-look}
use Rattle.wl_surface.proofs.seen.seen_at.Goals as goal

pub returns-then-looks-index : goal.returns-then-looks-index
returns-then-looks-index c = λ all surfaces seen among.
    seen-here all surfaces c.args.looks.now c.args.index _ c.args.surface seen c.if-index-looks.true c.if-looks-index.true

pub returns : goal.returns
returns c = λ all surfaces seen among. c.seen_of.ensures ∙ seen-look all surfaces c.args.looks.now c.args.surface seen among
