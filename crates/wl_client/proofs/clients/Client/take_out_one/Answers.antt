use Rattle.wl_client.proofs.Peers.{IsPeer-removed}
use Rattle.wl_client.proofs.clients.Client.take_out_one.Goals as goal

pub returns-clause-removes : goal.returns-clause-removes
returns-clause-removes g c = λ p is.
    let seen = rw (← c.self.view_is) at is in
    IsPeer-removed _ p c.args.id _ _ c.remove-removed.ensures.found c.remove-removed.ensures.removed c.remove-removed.ensures.len seen
