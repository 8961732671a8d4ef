use Rattle.law_desktop.proofs.Isolation.LeftAlone.{others_are_left_alone}
use Rattle.law_desktop.proofs.desktop.others_are_left_alone.Goals as goal

pub returns : goal.returns
returns c = others_are_left_alone
