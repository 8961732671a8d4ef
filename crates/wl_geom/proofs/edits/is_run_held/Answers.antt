use Rattle.std.proofs.Common.{◌≡◌, ◌+◌, ◌+ℤ◌, pos, w32, to_z, of_z, refl, arith}
use Rattle.std.proofs.lemmas.Int.{ints, to_z-of_z}
use Rattle.wl_geom.proofs.Held.{run-more}
use Rattle.wl_geom.proofs.edits.is_run_held.Goals as goal

pub loop-done-preserved : goal.loop-done-preserved
loop-done-preserved c =
    let x = to_z-of_z w32 c.args.x c.ranges.x in
    let y = to_z-of_z w32 c.args.y c.ranges.y in
    let done = c.loop-done.done in
    let more = c.count_held-more.result in
    let at : to_z w32 (of_z w32 c.place_after.result) ≡ c.args.x +ℤ pos done = omega (arith, ints) in
    record {
      within = omega arith;
      held = simp (x, y) (run-more c.args.x (c.args.x +ℤ pos done) c.args.y c.args.edits.now done more (done + more) refl refl
          (simp (x, y) at c.loop-done.invariant.held) (simp (at, y) at c.count_held-more.ensures.held));
    }
