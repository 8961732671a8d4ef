use Rattle.law_desktop.proofs.Soundness.Windows.{sound_is_distinct}
use Rattle.law_desktop.proofs.desktop.sound_is_distinct.Goals as goal

pub returns : goal.returns
returns c = sound_is_distinct
