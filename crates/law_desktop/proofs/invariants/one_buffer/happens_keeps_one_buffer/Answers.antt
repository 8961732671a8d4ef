use Rattle.law_desktop.proofs.OneBuffer.Running.{happens-keeps}
use Rattle.law_desktop.proofs.invariants.one_buffer.happens_keeps_one_buffer.Goals as goal

pub returns : goal.returns
returns c = happens-keeps
