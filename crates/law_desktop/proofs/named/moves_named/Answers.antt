use Rattle.law_desktop.proofs.ByNames.Linking.{moves-named}
use Rattle.law_desktop.proofs.named.moves_named.Goals as goal

pub returns : goal.returns
returns c = moves-named
