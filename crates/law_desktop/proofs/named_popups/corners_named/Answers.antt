use Rattle.law_desktop.proofs.PopupsByNames.Rooted.{corners-named}
use Rattle.law_desktop.proofs.named_popups.corners_named.Goals as goal

pub returns : goal.returns
returns c = corners-named
