use Rattle.wl_client.proofs.Peers.{WantsOr-told}
use Rattle.wl_client.proofs.clients.Client.get_registry.Goals as goal

pub returns-clause-acts : goal.returns-clause-acts
returns-clause-acts g c = λ p is.
    let next = c.make.ensures.makes p is in
    (next.0, WantsOr-told _ _ p _ next.0 c.globals_told.ensures next.1, next.2)
