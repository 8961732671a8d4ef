use Rattle.wl_surface.proofs.Hanging.{commits-stack}
use Rattle.wl_surface.proofs.tree_laws.commits_stack.Goals as goal

pub returns : goal.returns
returns c = commits-stack
