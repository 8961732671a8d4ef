use Rattle.std.proofs.Common.{pos, ◌+◌, ◌*◌, ◌<◌, length, arith, sym}
use Rattle.wl_paint.specs.Painting.{pixel_of, window_of}
use Rattle.wl_paint.proofs.Layers.{scratch-more}
use Rattle.wl_paint.proofs.Shown.{Shows-more, Shows-over}
use Rattle.wl_paint.proofs.painting.paint_run.Goals as goal

pub loop-k-preserved : goal.loop-k-preserved
loop-k-preserved g c i h =
    let short : 4 * i < length c.loop-k.run = omega arith in
    let w = window_of c.window.result in
    let x = pos (c.args.x + i) in
    let y = pos c.args.y in
    Shows-more _ _ _ _ _ (λ said. said) (sym (scratch-more c.args.layers.now.background (g.W.Windows.windows c.args.layers.now.windows.now) c.loop-k.k w x y c.window.ensures))
    (Shows-over _ _ (pixel_of c.loop-k.run i) _ x y w (c.lay_window.ensures i short) (c.loop-k.invariant i short))
