use Rattle.std.proofs.Common.{drop}
use Rattle.spec_desktop.specs.Peer.{with_rest}
use Rattle.wl_client.proofs.Allowed.{own-may}
use Rattle.wl_client.proofs.Peers.{IsPeer-with_rest}
use Rattle.wl_client.proofs.Taking.{keeps-own, serves-own}
use Rattle.wl_client.proofs.clients.Client.serve_own.Goals as goal

pub returns-in-Ok-clause-serves : goal.returns-in-Ok-clause-serves
returns-in-Ok-clause-serves g c = λ used are p is.
    let left = drop c.args.size c.args.self.now.rest in
    let next = c.act_with.ensures.acts used are (with_rest left p) (rw c.take_first.ensures (IsPeer-with_rest _ p left is)) in
    (next.0, serves-own used _ p next.0 c.args.size c.args.judged is c.requires.lives c.requires.own (rw c.in-Ok.is next.1), next.2)

pub returns-in-Ok-clause-table : goal.returns-in-Ok-clause-table
returns-in-Ok-clause-table g c = λ alive.
    let changes = rw c.take_first.ensures at c.act_with.ensures.table alive in
    keeps-own c.args.self.now c.args.size c.in-Ok.action c.args.judged _ c.in-Ok.is c.requires.own changes

pub returns-in-Err-clause-serves : goal.returns-in-Err-clause-serves
returns-in-Err-clause-serves g c = λ used are p is.
    let left = drop c.args.size c.args.self.now.rest in
    let next = c.refused.ensures.errs (with_rest left p) (rw c.take_first.ensures (IsPeer-with_rest _ p left is)) in
    (next.0, serves-own used _ p next.0 c.args.size c.args.judged is c.requires.lives c.requires.own (rw c.in-Err.is next.1), next.2)

pub act_with-requires : goal.act_with-requires
act_with-requires g c = record { allowed = own-may c.args.self.now c.args.size c.args.judged c.in-Ok.action c.requires.own c.in-Ok.is }
