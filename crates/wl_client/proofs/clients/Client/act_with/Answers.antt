use Rattle.spec_desktop.specs.Peer.{counted}
use Rattle.wl_client.proofs.Taking.{ActsWith-other}
use Rattle.wl_client.proofs.clients.Client.act_with.Goals as goal

pub returns-in-DestroyBuffer-clause-acts : goal.returns-in-DestroyBuffer-clause-acts
returns-in-DestroyBuffer-clause-acts g c = λ used are p is.
    let next = c.destroy_buffer_with.ensures.acts used are (counted p) (c.count.ensures.counts p is) in
    (next.0, rw c.in-DestroyBuffer.is next.1, next.2)

pub returns-in_default : goal.returns-in_default
returns-in_default g c = record {
  acts = λ used are p is.
      let next = c.act.ensures.acts p is in
      (next.0, ActsWith-other used c.args.action (counted p) next.0 c.in_default.not-DestroyBuffer next.1, next.2);
  table = c.act.ensures.table;
  rest = c.act.ensures.rest;
}
