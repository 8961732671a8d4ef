use Rattle.law_desktop.proofs.PointerAside.Lives.{hit-lives}
use Rattle.law_desktop.proofs.pointed.hit_lives.Goals as goal

pub returns : goal.returns
returns c = hit-lives
