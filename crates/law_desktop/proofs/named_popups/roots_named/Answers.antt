use Rattle.law_desktop.proofs.PopupsByNames.Rooted.{roots-named}
use Rattle.law_desktop.proofs.named_popups.roots_named.Goals as goal

pub returns : goal.returns
returns c = roots-named
