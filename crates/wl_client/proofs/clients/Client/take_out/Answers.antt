use Rattle.std.proofs.Common.{◌≡◌, get_or, ap, ◌∙◌, sym, subst}
use Rattle.std.proofs.lemmas.List.{drop_all}
use Rattle.wl_client.specs.Agreement.{IsPeer}
use Rattle.spec_desktop.specs.Peer.{Peer, all_removed, removed}
use Rattle.wl_client.proofs.Queueing.{all_removed-next, held_without-next}
use Rattle.wl_client.proofs.clients.Client.take_out.Goals as goal

pub loop-id-preserved : goal.loop-id-preserved
loop-id-preserved g c = record {
  left = λ p is.
      let m = c.loop-id.invariant.left p is in (
        removed (get_or c.args.ids.now c.loop-id.id-index 0) m.0,
        c.take_out_one.ensures.removes m.0 m.1,
        all_removed-next c.args.ids.now c.loop-id.id-index m.0 _ c.loop-id-test.true m.2,
      );
  table = λ other. held_without-next _ _ c.args.ids.now c.loop-id.id-index other _ c.loop-id-test.true c.take_out_one.ensures.table (c.loop-id.invariant.table other);
  rest = c.take_out_one.ensures.rest ∙ c.loop-id.invariant.rest;
}

pub returns-clause-removes : goal.returns-clause-removes
returns-clause-removes g c = λ p is.
    let m = c.loop-id.invariant.left p is in
    let all : m.0 ≡ all_removed c.args.ids.now p = ap (λ ids. all_removed ids m.0) (sym (drop_all c.loop-id.id-index c.args.ids.now c.loop-id-test.false)) ∙ m.2 in
    subst (λ (q : Peer). IsPeer c.loop-id.self q) all m.1
