use Rattle.law_windows.proofs.ToldTogether.{told-together}
use Rattle.law_windows.proofs.repainting.told_together.Goals as goal

pub returns : goal.returns
returns c = told-together
