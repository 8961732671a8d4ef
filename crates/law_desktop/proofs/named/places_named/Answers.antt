use Rattle.law_desktop.proofs.ByNames.Linking.{places-named}
use Rattle.law_desktop.proofs.named.places_named.Goals as goal

pub returns : goal.returns
returns c = places-named
