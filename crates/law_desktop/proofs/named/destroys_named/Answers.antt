use Rattle.law_desktop.proofs.ByNames.Linking.{destroys-named}
use Rattle.law_desktop.proofs.named.destroys_named.Goals as goal

pub returns : goal.returns
returns c = destroys-named
