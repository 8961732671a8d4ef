use Rattle.wl_surface.proofs.Hanging.{asks-alone}
use Rattle.wl_surface.proofs.tree_laws.asks_alone.Goals as goal

pub returns : goal.returns
returns c = asks-alone
