use Rattle.std.proofs.Common.{rules}
use Rattle.wl_client.proofs.wl_region.action.Goals as goal

pub returns-in-Add : goal.returns-in-Add
returns-in-Add g c = search rules
