use Rattle.law_desktop.proofs.TreeBuffers.Alike.{lets-alike}
use Rattle.law_desktop.proofs.invariants.tree_buffers.lets_go_alike.Goals as goal

pub returns : goal.returns
returns c = lets-alike
