use Rattle.std.proofs.Common.{rules}
use Rattle.wl_client.proofs.wl_region.change.Goals as goal

pub returns : goal.returns
returns g c = search rules
