use Rattle.std.proofs.Common.{◌<◌, rules, length}
use Rattle.wl_scene.specs.Stacked.{stacked}
use Rattle.wl_scene.proofs.Written.{written-next}
use Rattle.wl_scene.proofs.runs.write_over.Goals as goal

pub loop-k-preserved : goal.loop-k-preserved
loop-k-preserved c =
    let less : c.loop-k.k < length c.args.windows.now = search rules in
    written-next (stacked c.args.client c.args.toplevel) c.args.windows.now c.loop-k.k _ c.args.start c.args.all.now c.loop-k.all less c.requires c.loop-k.invariant
