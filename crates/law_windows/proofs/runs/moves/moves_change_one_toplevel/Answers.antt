use Rattle.law_windows.proofs.OneToplevel.Shifted.{moves-change}
use Rattle.law_windows.proofs.runs.moves.moves_change_one_toplevel.Goals as goal

pub returns : goal.returns
returns c = moves-change
