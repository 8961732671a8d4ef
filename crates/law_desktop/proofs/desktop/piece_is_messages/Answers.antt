use Rattle.law_desktop.proofs.Soundness.Happenings.{piece_is_messages}
use Rattle.law_desktop.proofs.desktop.piece_is_messages.Goals as goal

pub returns : goal.returns
returns c = piece_is_messages
