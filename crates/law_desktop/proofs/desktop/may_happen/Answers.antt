use Rattle.law_desktop.proofs.Runs.MayHappen.{happens-ample}
use Rattle.law_desktop.proofs.desktop.may_happen.Goals as goal

pub returns : goal.returns
returns c = happens-ample
