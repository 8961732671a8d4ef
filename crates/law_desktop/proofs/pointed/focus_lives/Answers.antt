use Rattle.law_desktop.proofs.PointerAside.Lives.{focus-lives}
use Rattle.law_desktop.proofs.pointed.focus_lives.Goals as goal

pub returns : goal.returns
returns c = focus-lives
