use Rattle.std.proofs.Common.{rules}
use Rattle.spec_desktop.proofs.refusals.ErrorCode.name.Goals as goal

pub returns-in-InvalidMethod : goal.returns-in-InvalidMethod
returns-in-InvalidMethod c = search rules
