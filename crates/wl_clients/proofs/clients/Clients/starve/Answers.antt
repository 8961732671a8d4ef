use Rattle.wl_clients.proofs.Leading.{starves-led}
use Rattle.wl_clients.proofs.clients.Clients.starve.Goals as goal

pub returns-clause-leads : goal.returns-clause-leads
returns-clause-leads g c = λ d a alive.
    let e = c.end.ensures.ends d a in
    starves-led c.args.client _ _ _ _ d e.0 a alive e.1 e.2 (c.end.ensures.marks d e.0 a e.1) (c.end.ensures.most d e.0 a e.1 e.2)
