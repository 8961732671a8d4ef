use Rattle.law_desktop.proofs.RootsOf.Messages.{messages-change}
use Rattle.law_desktop.proofs.toplevels.messages.messages_change_one_toplevel.Goals as goal

pub returns : goal.returns
returns c = messages-change
