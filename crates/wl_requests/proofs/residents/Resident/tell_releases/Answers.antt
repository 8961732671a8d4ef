use Rattle.std.proofs.Common.{[], ℕ, ap, arith, map, refl, sym, ◌∙◌}
use Rattle.std.specs.Prelude.{is_some}
use Rattle.wl_client.specs.View.{ClientView}
use Rattle.wl_proto.specs.declared.interface.Interface.TheVariants.{WlBuffer}
use Rattle.spec_desktop.specs.Told.{Said, said}
use Rattle.wl_proto.specs.Messages.{says}
use Rattle.wl_requests.proofs.Doing.{gone}
use Rattle.wl_requests.proofs.Letting.{all-told, lives-of, next-told, none-told}
use Rattle.wl_requests.proofs.residents.Resident.tell_releases.Goals as goal

abbrev told_of : ℕ → Said
told_of object = said object (says WlBuffer 0 [])

pub returns-then-has_ended-clause-table : goal.returns-then-has_ended-clause-table
returns-then-has_ended-clause-table g c = λ alive. absurd (gone c.loop-buffer.self.client.ended (sym c.has_ended.ensures ∙ c.if-has_ended.true) alive)

pub returns-then-has_ended-clause-queues : goal.returns-then-has_ended-clause-queues
returns-then-has_ended-clause-queues g c = λ p is lives.
    let so = c.loop-buffer.invariant.told p is lives in
    (so.0, so.2.over (ap is_some (sym so.1.status) ∙ sym c.has_ended.ensures ∙ c.if-has_ended.true), so.1)

pub loop-buffer-init : goal.loop-buffer-init
loop-buffer-init g c = record {
  table = λ alive. refl;
  told = λ p is lives. (p, is, none-told (map told_of c.args.released.now) p lives);
  ended = λ over. refl;
  owned = refl;
  subsurfaces = refl;
  rest = omega arith;
}

pub loop-buffer-preserved : goal.loop-buffer-preserved
loop-buffer-preserved g c =
    let now = c.loop-buffer.invariant in
    let lives = lives-of c.loop-buffer.self.client.ended (sym c.has_ended.ensures ∙ c.if-has_ended.false) in
    record {
      table = λ alive. c.queue_all.ensures.table alive ∙ now.table lives;
      told = λ p is started.
          let so = now.told p is started in
          let next = c.queue_all.ensures.queues so.0 so.1 in (
            next.0,
            next.2,
            next-told told_of c.args.released.now c.loop-buffer.buffer-index (map told_of c.args.released.now) p so.0 next.0 _ c.loop-buffer-test.true c.release_event.ensures
                (sym so.1.status ∙ lives) next.1 so.2,
          );
      ended = λ over. absurd (gone c.loop-buffer.self.client.ended (ap (λ (v : ClientView). is_some v.ended) (now.ended over) ∙ over) lives);
      owned = now.owned;
      subsurfaces = now.subsurfaces;
      rest = omega (arith, c.queue_all.ensures.rest, now.rest);
    }

pub returns-clause-queues : goal.returns-clause-queues
returns-clause-queues g c = λ p is lives.
    let so = c.loop-buffer.invariant.told p is lives in
    (so.0, all-told told_of c.args.released.now c.loop-buffer.buffer-index (map told_of c.args.released.now) p so.0 c.loop-buffer-test.false so.2, so.1)
