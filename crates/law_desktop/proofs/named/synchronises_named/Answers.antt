use Rattle.law_desktop.proofs.ByNames.Linking.{synchronises-named}
use Rattle.law_desktop.proofs.named.synchronises_named.Goals as goal

pub returns : goal.returns
returns c = synchronises-named
