use Rattle.law_desktop.proofs.ByNames.Linking.{unlinks-named}
use Rattle.law_desktop.proofs.named.unlinks_named.Goals as goal

pub returns : goal.returns
returns c = unlinks-named
