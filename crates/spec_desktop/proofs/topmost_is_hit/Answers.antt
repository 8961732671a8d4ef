use Rattle.spec_desktop.proofs.Hits.{topmost_is_hit}
use Rattle.spec_desktop.proofs.topmost_is_hit.Goals as goal

pub returns : goal.returns
returns c = topmost_is_hit
