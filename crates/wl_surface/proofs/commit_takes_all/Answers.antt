use Rattle.wl_surface.proofs.StateCommits.{commit_takes_all}
use Rattle.wl_surface.proofs.commit_takes_all.Goals as goal

pub returns : goal.returns
returns c = commit_takes_all
