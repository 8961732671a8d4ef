use Rattle.std.proofs.Common.{◌∙◌}
use Rattle.wl_store.proofs.reading.copy_pixel.Goals as goal

pub returns-clause-copied : goal.returns-clause-copied
returns-clause-copied c b h = c.put_pixel.ensures.lanes b h ∙ c.pixel_from.ensures.lanes b h
