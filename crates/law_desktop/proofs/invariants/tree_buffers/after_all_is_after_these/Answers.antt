use Rattle.law_desktop.proofs.TreeBuffers.After.{after-these}
use Rattle.law_desktop.proofs.invariants.tree_buffers.after_all_is_after_these.Goals as goal

pub returns : goal.returns
returns c = after-these
