use Rattle.law_desktop.proofs.TreeBuffers.Releasing.{rise}
use Rattle.law_desktop.proofs.invariants.tree_buffers.releases_rise.Goals as goal

pub returns : goal.returns
returns c = rise
