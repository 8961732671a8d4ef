use Rattle.law_windows.proofs.ToldDamage.Links.{link-end-tells}
use Rattle.law_windows.proofs.changes.told.link_end_tells_applied.Goals as goal

pub returns : goal.returns
returns g c = link-end-tells _
