use Rattle.std.proofs.Common.{refl}
use Rattle.wl_blend.proofs.Vectors.{count-zip2, fourths, lane-channel, lane-fourth}
use Rattle.wl_blend.proofs.lanes.with_fourths.Goals as goal

pub returns-clause-channels : goal.returns-clause-channels
returns-clause-channels c p i h l = lane-channel c.args.pixels p i c.requires.count h l

pub returns-clause-fourths : goal.returns-clause-fourths
returns-clause-fourths c p h = lane-fourth c.args.pixels p c.requires h

pub returns-clause-count : goal.returns-clause-count
returns-clause-count c = count-zip2 _ c.args.pixels fourths c.requires.count refl
