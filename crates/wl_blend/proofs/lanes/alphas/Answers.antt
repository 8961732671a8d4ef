use Rattle.wl_blend.proofs.Vectors.{lane-alphas}
use Rattle.wl_blend.proofs.lanes.alphas.Goals as goal

pub returns-clause-lanes : goal.returns-clause-lanes
returns-clause-lanes c k h = lane-alphas c.args.pixels k c.requires.count h
