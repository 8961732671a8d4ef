use Rattle.law_desktop.proofs.KeptInOrder.Laws.{messages_keep_ordered}
use Rattle.law_desktop.proofs.ordered.messages_keep_ordered.Goals as goal

pub returns : goal.returns
returns c = messages_keep_ordered
