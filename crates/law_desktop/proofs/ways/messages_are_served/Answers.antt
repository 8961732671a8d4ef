use Rattle.law_desktop.proofs.MessageWays.Routes.{messages_are_served}
use Rattle.law_desktop.proofs.ways.messages_are_served.Goals as goal

pub returns : goal.returns
returns c = messages_are_served
