use Rattle.law_desktop.proofs.Runs.Through.{happens_leads_through}
use Rattle.law_desktop.proofs.desktop.happens_leads_through.Goals as goal

pub returns : goal.returns
returns c = happens_leads_through
