use Rattle.law_desktop.proofs.ByNames.Linking.{desynchronises-named}
use Rattle.law_desktop.proofs.named.desynchronises_named.Goals as goal

pub returns : goal.returns
returns c = desynchronises-named
