use Rattle.law_windows.proofs.OneToplevel.Demanded.{no-surface-comes}
use Rattle.law_windows.proofs.runs.demands.no_surface_comes.Goals as goal

pub returns : goal.returns
returns c = no-surface-comes
