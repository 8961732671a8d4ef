use Rattle.law_desktop.proofs.MessageWays.Routes.{messages_lead_so}
use Rattle.law_desktop.proofs.ways.messages_lead_so.Goals as goal

pub returns : goal.returns
returns c = messages_lead_so
