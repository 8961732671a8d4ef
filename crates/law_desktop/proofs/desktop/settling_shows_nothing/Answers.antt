use Rattle.law_desktop.proofs.Runs.Settled.{settling-shows-nothing}
use Rattle.law_desktop.proofs.desktop.settling_shows_nothing.Goals as goal

pub returns : goal.returns
returns c = settling-shows-nothing
