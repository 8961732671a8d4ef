use Rattle.law_windows.proofs.OneToplevel.Shifted.{stays-whole}
use Rattle.law_windows.proofs.runs.moves.stays_whole.Goals as goal

pub returns : goal.returns
returns c = stays-whole
