use Rattle.std.proofs.Common.{rules}
use Rattle.wl_blend.proofs.formula.blend.Goals as goal

pub returns : goal.returns
returns c = search rules
