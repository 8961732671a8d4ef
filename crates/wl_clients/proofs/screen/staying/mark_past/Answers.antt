use Rattle.std.proofs.Common.{arith}
use Rattle.std.proofs.lemmas.Bool.Decides.{nat_tests}
use Rattle.wl_clients.proofs.OnScreen.Added.{down-added, up-added}
use Rattle.wl_clients.proofs.screen.staying.mark_past.Goals as goal

pub returns-then-pixels_lifted-clause-points : goal.returns-then-pixels_lifted-clause-points
returns-then-pixels_lifted-clause-points g c =
    up-added c.args.changes.now c.args.was.now c.args.is.now c.args.damage.now c.mark_pieces.new.damage c.pixels_lifted.result c.pixels_lifted-2.result c.lifted-up.result
    c.lifted-up.ensures.count c.pixels_lifted.ensures c.pixels_lifted-2.ensures (grind (arith, nat_tests)) c.mark_pieces.ensures.points

pub returns-else-pixels_lifted-clause-points : goal.returns-else-pixels_lifted-clause-points
returns-else-pixels_lifted-clause-points g c =
    down-added c.args.changes.now c.args.was.now c.args.is.now c.args.damage.now c.mark_pieces-else-pixels_lifted.new.damage c.pixels_lifted.result c.pixels_lifted-2.result
    c.lifted-down.result c.lifted-down.ensures.count c.pixels_lifted.ensures c.pixels_lifted-2.ensures (grind (arith, nat_tests)) c.mark_pieces-else-pixels_lifted.ensures.points
