use Rattle.std.proofs.Common.{rules}
use Rattle.wl_paint.proofs.framebuffer.Framebuffer.pixels.Goals as goal

pub returns-clause-bytes : goal.returns-clause-bytes
returns-clause-bytes g c = search rules

pub returns-clause-len : goal.returns-clause-len
returns-clause-len g c = search rules

pub returns-clause-image : goal.returns-clause-image
returns-clause-image g c = search rules
