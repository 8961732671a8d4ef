use Rattle.law_desktop.proofs.Soundness.Happenings.{happenings_are_sound}
use Rattle.law_desktop.proofs.desktop.happenings_are_sound.Goals as goal

pub returns : goal.returns
returns c = happenings_are_sound
