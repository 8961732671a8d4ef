use Rattle.std.proofs.Common.{ap, refl}
use Rattle.spec_desktop.specs.Peer.{stored_at}
use Rattle.spec_desktop.specs.declared.answers.Done.TheVariants as gave
use Rattle.wl_clients.proofs.OnScreen.Telling.{kept-seated, stored-so}
use Rattle.wl_clients.proofs.screen.feeding.store.Goals as goal

pub returns : goal.returns
returns g c = record {
  changes = λ n pile others base d r is.
      let old = c.args.resident.now in
      let next = c.store_of.ensures.told r.peer is.seat.peer in
      let so = stored-so r.peer.status c.args.store c.args.at c.args.bytes.now r.peer in (
        stored_at r.peer.status c.args.store c.args.at c.args.bytes.now r.peer,
        _,
        (refl, ap (λ s. gave.Store s) next.1),
        kept-seated n others base d r _ old (record old { client = c.store_of.new.client }) pile is next.0 refl refl c.store_of.ensures.table so.0 so.1,
      );
}
