use Rattle.law_desktop.proofs.PopupsByNames.Rising.{rising-named}
use Rattle.law_desktop.proofs.named_popups.rising_named.Goals as goal

pub returns : goal.returns
returns c = rising-named
