use Rattle.law_desktop.proofs.Runs.Through.{messages_lead_through}
use Rattle.law_desktop.proofs.desktop.messages_lead_through.Goals as goal

pub returns : goal.returns
returns c = messages_lead_through
