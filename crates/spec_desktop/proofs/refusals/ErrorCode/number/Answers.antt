use Rattle.std.proofs.Common.{rules}
use Rattle.spec_desktop.proofs.refusals.ErrorCode.number.Goals as goal

pub returns-in-NoMemory : goal.returns-in-NoMemory
returns-in-NoMemory c = search rules
