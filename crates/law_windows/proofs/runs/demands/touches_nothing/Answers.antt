use Rattle.law_windows.proofs.OneToplevel.Demanded.{touches-nothing}
use Rattle.law_windows.proofs.runs.demands.touches_nothing.Goals as goal

pub returns : goal.returns
returns c = touches-nothing
