use Rattle.law_desktop.proofs.Soundness.RunIsSound.{run_is_sound}
use Rattle.law_desktop.proofs.desktop.run_is_sound.Goals as goal

pub returns : goal.returns
returns c = run_is_sound
