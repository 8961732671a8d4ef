use Rattle.wl_client.proofs.Peers.{absent}
use Rattle.wl_client.proofs.Taking.{serves-refused}
use Rattle.wl_client.proofs.clients.Client.serve.Goals as goal

pub returns-in-Refused-clause-serves : goal.returns-in-Refused-clause-serves
returns-in-Refused-clause-serves g c = λ _ used are p is.
    let next = c.refused.ensures.errs p is in
    (next.0, serves-refused used _ p next.0 c.in-Refused.refusal is (absent _ c.if-has_ended.ensures) c.in-Refused.ensures next.1, next.2)

pub returns-in-Own-clause-serves : goal.returns-in-Own-clause-serves
returns-in-Own-clause-serves g c = λ _. c.serve_own.ensures.serves
