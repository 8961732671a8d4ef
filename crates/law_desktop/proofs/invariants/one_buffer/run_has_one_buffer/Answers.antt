use Rattle.law_desktop.proofs.OneBuffer.Running.{run-has}
use Rattle.law_desktop.proofs.invariants.one_buffer.run_has_one_buffer.Goals as goal

pub returns : goal.returns
returns c = run-has
