use Rattle.law_windows.proofs.OneToplevel.Marked.{runs-are-of-client}
use Rattle.law_windows.proofs.runs.marks.runs_are_of_client.Goals as goal

pub returns : goal.returns
returns c = runs-are-of-client
