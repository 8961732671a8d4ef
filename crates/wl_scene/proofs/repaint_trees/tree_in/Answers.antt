use Rattle.wl_scene.proofs.TreesWritten.{tree-found}
use Rattle.wl_scene.proofs.repaint_trees.tree_in.Goals as goal

pub returns : goal.returns
returns c together =
    tree-found c.args.root c.args.windows.now c.count_below.result c.count_of.result c.count_below.ensures.below c.count_of.ensures.count together
