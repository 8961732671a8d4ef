use Rattle.wl_surface.proofs.Hanging.{applies-stack}
use Rattle.wl_surface.proofs.tree_laws.applies_stack.Goals as goal

pub returns : goal.returns
returns c = applies-stack
