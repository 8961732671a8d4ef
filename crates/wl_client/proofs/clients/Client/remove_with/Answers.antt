use Rattle.std.proofs.Common.{◌++◌, [], ◌∷◌, ap, ◌∙◌, map, refl, sym}
use Rattle.spec_desktop.specs.Told.{id_deleted, released_told}
use Rattle.wl_client.proofs.Peers.{Queues-told}
use Rattle.wl_client.proofs.Queueing.{held_without-then, without-kept, over-now}
use Rattle.wl_client.proofs.clients.Client.remove_with.Goals as goal

pub returns-then-not-queue_deletions-clause-table : goal.returns-then-not-queue_deletions-clause-table
returns-then-not-queue_deletions-clause-table g c = λ lives. over-now _ lives c.if-not-queue_deletions.ensures.table

pub returns-then-not-queue_deletions-clause-removes : goal.returns-then-not-queue_deletions-clause-removes
returns-then-not-queue_deletions-clause-removes g c = λ p is.
    let m = c.if-not-queue_deletions.ensures.queues _ (c.take_out_one.ensures.removes _ (c.take_out.ensures.removes p is)) in
    (m.0, m.2 (map id_deleted c.args.callbacks.now ++ released_told c.args.released) m.0 refl, m.1)

pub returns-then-not-queue_deletions-2-clause-table : goal.returns-then-not-queue_deletions-2-clause-table
returns-then-not-queue_deletions-2-clause-table g c = λ lives. over-now _ lives c.if-not-queue_deletions-2.ensures.table

pub returns-then-not-queue_deletions-2-clause-removes : goal.returns-then-not-queue_deletions-2-clause-removes
returns-then-not-queue_deletions-2-clause-removes g c = λ p is.
    let m = c.if-not-queue_deletions.ensures.queues _ (c.take_out_one.ensures.removes _ (c.take_out.ensures.removes p is)) in
    let n = c.if-not-queue_deletions-2.ensures.queues m.0 m.1 in
    (n.0, m.2 (map id_deleted c.args.callbacks.now ++ released_told c.args.released) n.0 (n.2 (released_told c.args.released) n.0 refl), n.1)

pub returns-in-Some-clause-table : goal.returns-in-Some-clause-table
returns-in-Some-clause-table g c = λ lives.
    without-kept c.args.self.now.objects c.take_out_one.new.self.objects _ (c.args.id ∷ c.args.callbacks.now)
    (held_without-then c.args.self.now.objects c.take_out.new.self.objects c.take_out_one.new.self.objects c.args.id c.args.callbacks.now c.take_out.ensures.table c.take_out_one.ensures.table)
    (c.queue_all.ensures.table lives ∙ c.if-not-queue_deletions-2.ensures.table ∙ c.if-not-queue_deletions.ensures.table)

pub returns-in-Some-clause-removes : goal.returns-in-Some-clause-removes
returns-in-Some-clause-removes g c = λ p is.
    let m = c.if-not-queue_deletions.ensures.queues _ (c.take_out_one.ensures.removes _ (c.take_out.ensures.removes p is)) in
    let n = c.if-not-queue_deletions-2.ensures.queues m.0 m.1 in
    let k = c.queue_all.ensures.queues n.0 n.1 in
    let told = ap (λ e. e ∷ []) c.release_event.ensures ∙ ap released_told (sym c.in-Some.is) in
    (k.0, m.2 (map id_deleted c.args.callbacks.now ++ released_told c.args.released) k.0 (n.2 (released_told c.args.released) k.0 (Queues-told _ _ n.0 k.0 told k.1)), k.2)

pub returns-in_default-clause-table : goal.returns-in_default-clause-table
returns-in_default-clause-table g c = λ lives.
    without-kept c.args.self.now.objects c.take_out_one.new.self.objects _ (c.args.id ∷ c.args.callbacks.now)
    (held_without-then c.args.self.now.objects c.take_out.new.self.objects c.take_out_one.new.self.objects c.args.id c.args.callbacks.now c.take_out.ensures.table c.take_out_one.ensures.table)
    (c.if-not-queue_deletions-2.ensures.table ∙ c.if-not-queue_deletions.ensures.table)

pub returns-in_default-clause-removes : goal.returns-in_default-clause-removes
returns-in_default-clause-removes g c = λ p is.
    let m = c.if-not-queue_deletions.ensures.queues _ (c.take_out_one.ensures.removes _ (c.take_out.ensures.removes p is)) in
    let n = c.if-not-queue_deletions-2.ensures.queues m.0 m.1 in (
      n.0,
      m.2 (map id_deleted c.args.callbacks.now ++ released_told c.args.released) n.0
          (n.2 (released_told c.args.released) n.0 (Queues-told [] _ n.0 n.0 (ap released_told (sym c.in_default.is)) refl)),
      n.1,
    )
