use Rattle.law_desktop.proofs.PointerAside.Happenings.{ends-apart}
use Rattle.law_desktop.proofs.pointed.ends_apart.Goals as goal

pub returns : goal.returns
returns c = ends-apart
