use Rattle.std.proofs.Common.{rules}
use Rattle.wl_requests.proofs.surface_requests.stacking_of.Goals as goal

pub returns-in-Map : goal.returns-in-Map
returns-in-Map c = search rules
