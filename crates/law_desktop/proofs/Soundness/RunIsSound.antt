-- Whatever happens leaves orderly desktops, which are sound.
use Rattle.std.proofs.Common.{List, [], ◌∷◌}
use Rattle.spec_desktop.specs.declared.answers.Done.{Done}
use Rattle.spec_desktop.specs.Desktop.{Desktop, empty}
use Rattle.law_desktop.specs.Soundness.{IsSound, RunIsSound}
use Rattle.spec_desktop.specs.Act.{Act}
use Rattle.spec_desktop.specs.Happens.{Happens}
use Rattle.law_desktop.specs.RunLaws.{Lasts}
use Rattle.law_desktop.proofs.Soundness.Orderly.{AreOrderly}
use Rattle.law_desktop.proofs.Soundness.Linked.{forest-trees}
use Rattle.law_desktop.proofs.Soundness.Message.{message-keeps}
use Rattle.law_desktop.proofs.Soundness.Objects.{objects-callbacks, objects-dismissed, objects-same}
use Rattle.law_desktop.proofs.Soundness.Roles.{roles-dismissed, roles-same}
use Rattle.law_desktop.proofs.Soundness.Run.{empty-orderly, happens-orderly}
use Rattle.law_desktop.proofs.Soundness.RunTold.{Frames}
use Rattle.law_desktop.proofs.Soundness.Sound.{orderly-sound}
use Rattle.law_desktop.proofs.Soundness.Standing.{standing-dismissed}

pub frames : Frames
frames =
    record {
      objects_same = objects-same;
      objects_callbacks = objects-callbacks;
      objects_dismissed = objects-dismissed;
      roles_same = roles-same;
      roles_dismissed = roles-dismissed;
      standing_dismissed = standing-dismissed;
    }

pub orderly-is-sound : (d : Desktop) → AreOrderly d → IsSound d
orderly-is-sound d orderly = orderly-sound forest-trees d orderly

pub happens-keeps : (act : Act) (done : Done) (d e : Desktop) → AreOrderly d → Happens act done d e → AreOrderly e
happens-keeps act done d e orderly h = happens-orderly frames message-keeps act done d e orderly h

pub lasts-keeps : (acts : List Act) (dones : List Done) (d e : Desktop) → AreOrderly d → Lasts acts dones d e → AreOrderly e
lasts-keeps [] [] d e orderly h = rw h orderly
lasts-keeps [] (done ∷ dones) d e orderly h = absurd h
lasts-keeps (act ∷ acts) [] d e orderly h = absurd h
lasts-keeps (act ∷ acts) (done ∷ dones) d e orderly h = lasts-keeps acts dones h.0 e (happens-keeps act done d h.0 orderly h.1) h.2

pub run_is_sound : RunIsSound
run_is_sound output acts dones d h = orderly-is-sound d (lasts-keeps acts dones (empty output) d (empty-orderly output) h)
