use Rattle.std.proofs.Common.{rules}
use Rattle.spec_desktop.proofs.refusals.Refusal.of.Goals as goal

pub returns : goal.returns
returns c = search rules
