use Rattle.std.proofs.Common.{ap, arith, length}
use Rattle.wl_scene.specs.Stacked.{WindowsKept, is_of, run_of}
use Rattle.wl_scene.proofs.Rooms.{never-both}
use Rattle.wl_scene.proofs.Written.{filter-shorter}
use Rattle.wl_scene.proofs.stacked_windows.StackedWindows.move_run.Goals as goal

pub returns-else-is_ok-clause-windows : goal.returns-else-is_ok-clause-windows
returns-else-is_ok-clause-windows g c = λ all owner stand same.
    let kept = ap (λ (kept : WindowsKept). length (run_of c.args.client c.args.toplevel kept.windows)) c.self.view_is in
    absurd
    (never-both _ c.if-is_ok.ensures.value
    (c.add_trees.ensures.succeeds all owner stand
    (omega (
      arith,
      same,
      kept,
      filter-shorter (is_of c.args.client c.args.toplevel) c.self.inside.windows.items,
      c.self.inside.windows.ok.0,
      c.self.invariant.1,
      c.clear.ensures.len,
      c.clear.ensures.capacity,
    ))))
