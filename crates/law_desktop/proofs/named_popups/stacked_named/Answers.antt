use Rattle.law_desktop.proofs.PopupsByNames.Popped.{stacked-named}
use Rattle.law_desktop.proofs.named_popups.stacked_named.Goals as goal

pub returns : goal.returns
returns c = stacked-named
