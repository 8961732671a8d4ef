use Rattle.law_desktop.proofs.OneBuffer.Running.{arrival-has}
use Rattle.law_desktop.proofs.invariants.one_buffer.arrival_has_one_buffer.Goals as goal

pub returns : goal.returns
returns c = arrival-has
