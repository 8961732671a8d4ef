use Rattle.law_desktop.proofs.PointerAside.Ended.{rounds-end-clients}
use Rattle.law_desktop.proofs.pointed.rounds_end_clients.Goals as goal

pub returns : goal.returns
returns c = rounds-end-clients
