use Rattle.wl_requests.proofs.PointerAsks.{asked-asks}
use Rattle.wl_requests.proofs.residents.Resident.pointer_asked.Goals as goal

pub returns-clause-asks : goal.returns-clause-asks
returns-clause-asks g c = λ r is. rw c.pointer_in.ensures (asked-asks c.args.self.now r is c.args.asked.now c.requires)
