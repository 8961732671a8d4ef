use Rattle.law_desktop.proofs.Soundness.First.{empty_is_sound}
use Rattle.law_desktop.proofs.desktop.empty_is_sound.Goals as goal

pub returns : goal.returns
returns c = empty_is_sound
