use Rattle.law_desktop.proofs.TreeBuffers.Stores.{commute}
use Rattle.law_desktop.proofs.invariants.tree_buffers.releases_commute.Goals as goal

pub returns : goal.returns
returns c = commute
