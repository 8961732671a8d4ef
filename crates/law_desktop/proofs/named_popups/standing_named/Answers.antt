use Rattle.law_desktop.proofs.PopupsByNames.Rooted.{standing-named}
use Rattle.law_desktop.proofs.named_popups.standing_named.Goals as goal

pub returns : goal.returns
returns c = standing-named
