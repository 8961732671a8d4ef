use Rattle.law_desktop.proofs.ByNames.Names.Done.{synchronises}
use Rattle.law_desktop.proofs.named.renamed.synchronises.Goals as goal

pub returns : goal.returns
returns c = synchronises
