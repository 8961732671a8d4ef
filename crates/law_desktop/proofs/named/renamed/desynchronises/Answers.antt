use Rattle.law_desktop.proofs.ByNames.Names.Done.{desynchronises}
use Rattle.law_desktop.proofs.named.renamed.desynchronises.Goals as goal

pub returns : goal.returns
returns c = desynchronises
