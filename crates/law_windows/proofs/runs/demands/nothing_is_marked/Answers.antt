use Rattle.law_windows.proofs.OneToplevel.Demanded.{nothing-is-marked}
use Rattle.law_windows.proofs.runs.demands.nothing_is_marked.Goals as goal

pub returns : goal.returns
returns c = nothing-is-marked
