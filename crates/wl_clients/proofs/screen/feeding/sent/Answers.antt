use Rattle.std.proofs.Common.{ap, refl}
use Rattle.spec_desktop.specs.Peer.{sent_by}
use Rattle.spec_desktop.specs.declared.answers.Done.TheVariants as gave
use Rattle.wl_clients.proofs.OnScreen.Telling.{kept-seated, sent-so}
use Rattle.wl_clients.proofs.screen.feeding.sent.Goals as goal

pub returns : goal.returns
returns g c = record {
  changes = λ n pile others base d r is.
      let old = c.args.resident.now in
      let next = c.sent.ensures.sends r.peer is.seat.peer in
      let so = sent-so c.args.count r.peer in (
        sent_by c.args.count r.peer,
        _,
        (refl, ap (λ b. gave.Sent b) next.1),
        kept-seated n others base d r _ old (record old { client = c.sent.new.self }) pile is next.0 refl refl c.sent.ensures.table so.0 so.1,
      );
}
