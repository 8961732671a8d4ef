use Rattle.wl_surface.proofs.Standing.{nothing-stands}
use Rattle.wl_surface.proofs.surfaces.Surfaces.new.Goals as goal

pub returns-clause-stand : goal.returns-clause-stand
returns-clause-stand g c = nothing-stands c.new.result c.new-2.result c.new.ensures.stand c.new-2.ensures
