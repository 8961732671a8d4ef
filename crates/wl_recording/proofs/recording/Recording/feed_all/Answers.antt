use Rattle.std.proofs.Common.{arith, refl, ◌≤◌, ◌∙◌}
use Rattle.wl_recording.proofs.FedPieces.{fed-more, fed-none}
use Rattle.wl_recording.proofs.recording.Recording.feed_all.Goals as goal

pub loop-done-init : goal.loop-done-init
loop-done-init g c = record { some = omega arith; clients = refl; asked = λ first asked holds. fed-none g.W.Write.contents c.args.client c.args.piece.now first asked _ holds }

pub loop-done-preserved : goal.loop-done-preserved
loop-done-preserved g c =
    let order : c.loop-done.done ≤ c.min-end.result = omega arith in
    record {
      some = omega arith;
      clients = c.record.ensures.clients ∙ c.loop-done.invariant.clients;
      asked = λ first asked holds. fed-more g.W.Write.contents c.args.client c.args.piece.now first asked c.loop-done.done c.min-end.result c.loop-done.self c.record.new.self order
          (c.loop-done.invariant.asked first asked holds) (λ a. c.record.ensures.asked first a);
    }
