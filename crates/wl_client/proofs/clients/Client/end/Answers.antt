use Rattle.wl_client.proofs.Peers.{IsPeer-ended}
use Rattle.wl_client.proofs.clients.Client.end.Goals as goal

pub returns-clause-ends : goal.returns-clause-ends
returns-clause-ends g c = λ p is.
    let seen = rw (← c.self.view_is) at is in
    rw (c.clear.ensures, c.new.ensures, c.new-2.ensures.empty, c.new-3.ensures.empty, c.new-4.ensures.empty, c.new-5.ensures.empty, c.new-6.ensures) (IsPeer-ended _ p c.args.cause seen)
