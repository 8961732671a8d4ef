use Rattle.law_desktop.proofs.PointerAside.Marking.{rounds-mark-in-turn}
use Rattle.law_desktop.proofs.pointed.rounds_mark_in_turn.Goals as goal

pub returns : goal.returns
returns c = rounds-mark-in-turn
