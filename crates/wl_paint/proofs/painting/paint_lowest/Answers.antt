use Rattle.std.proofs.Common.{◌+◌, ◌-◌, ◌*◌, ◌<◌, pos, length, take, arith, sym}
use Rattle.wl_paint.specs.Painting.{window_of}
use Rattle.wl_paint.specs.Window.{scratch}
use Rattle.wl_paint.proofs.Layers.{promise-of, scratch-more}
use Rattle.wl_paint.proofs.Shown.{Shows-more}
use Rattle.wl_paint.proofs.painting.paint_lowest.Goals as goal

pub returns-then-hide-clause-pixels : goal.returns-then-hide-clause-pixels
returns-then-hide-clause-pixels g c i h =
    let windows = g.W.Windows.windows c.args.layers.now.windows.now in
    let k = c.len-len.result - 1 - c.loop-above.above in
    let short : 4 * i < length c.loop-above.run = omega arith in
    let x = pos (c.args.x + i) in
    let y = pos c.args.y in
    let w = window_of c.window.result in
    Shows-more _ _ _ _ _ (promise-of windows k w x y c.window.ensures) (sym (scratch-more c.args.layers.now.background windows k w x y c.window.ensures))
    (c.hide.ensures c.if-hide.true i short (scratch c.args.layers.now.background (take k windows) x y))
