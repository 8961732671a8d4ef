use Rattle.law_windows.proofs.OneToplevel.Turned.{stacked-are-kept}
use Rattle.law_windows.proofs.runs.kept.stacked_are_kept.Goals as goal

pub returns : goal.returns
returns c = stacked-are-kept
