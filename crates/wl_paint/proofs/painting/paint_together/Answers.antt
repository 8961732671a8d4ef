use Rattle.std.proofs.Common.{ℕ, ◌<◌, ◌-◌, ◌*◌, pos, arith, rules}
use Rattle.std.proofs.lemmas.Grind.{common_steps}
use Rattle.wl_paint.specs.Painting.{pixel_of}
use Rattle.wl_paint.specs.Window.{AreOpaqueAsSaid, scratch}
use Rattle.wl_paint.specs.Damage.{has}
use Rattle.wl_paint.proofs.PaintedRows.{painted-row}
use Rattle.wl_paint.proofs.PaintedRuns.{IsPaintedTo-copied}
use Rattle.wl_paint.proofs.painting.paint_together.Goals as goal

pub returns : goal.returns
returns g c =
    let columns = c.args.columns in
    let shown = λ (i : ℕ) (l : i < columns.end - columns.first). c.paint_run.ensures i (first_of (search rules, grind (arith, common_steps))) in
    painted-row (λ x z. AreOpaqueAsSaid (pos x) (pos z) (g.W.Windows.windows c.args.layers.now.windows.now))
    (λ x z. scratch c.args.layers.now.background (g.W.Windows.windows c.args.layers.now.windows.now) (pos x) (pos z)) (has c.args.damage.now) c.args.damage.now.width
    (pixel_of c.args.pixels.now) (pixel_of c.copy_runs.new.pixels) columns c.args.y columns.end c.requires.within
    (IsPaintedTo-copied (pixel_of c.args.pixels.now) (pixel_of c.copy_runs.new.pixels) (pixel_of c.paint_run.new.run)
    (λ x. AreOpaqueAsSaid (pos x) (pos c.args.y) (g.W.Windows.windows c.args.layers.now.windows.now))
    (λ x. scratch c.args.layers.now.background (g.W.Windows.windows c.args.layers.now.windows.now) (pos x) (pos c.args.y)) (λ x. has c.args.damage.now x c.args.y)
    (c.args.y * c.args.damage.now.width) columns.first columns.end shown c.copy_runs.ensures)
    (λ x l h. absurd (omega arith))
