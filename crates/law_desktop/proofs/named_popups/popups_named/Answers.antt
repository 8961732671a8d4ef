use Rattle.law_desktop.proofs.PopupsByNames.Popped.{popups-named}
use Rattle.law_desktop.proofs.named_popups.popups_named.Goals as goal

pub returns : goal.returns
returns c = popups-named
