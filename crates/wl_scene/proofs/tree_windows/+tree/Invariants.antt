use Rattle.std.proofs.Common.{◌≡◌, ◌≤◌, ◌+◌, ◌*◌, ◌++◌, flat_map, take}
use Rattle.std.specs.Prelude.{vec_capacity}
use Rattle.wl_surface.specs.Linked.{Stand}
use Rattle.spec_desktop.specs.Windows.{Owner}
use Rattle.wl_surface.specs.Surfaces.{Surfaces as Asked}
use Rattle.wl_scene.specs.TreeWindows.{Continues, placed_windows, rooted, told_tree}
use Rattle.wl_scene.proofs.tree_windows.+tree.Given as goal

abbrev pub decreases-add_tree : goal.decreases-add_tree
decreases-add_tree g l = l.levels * 3

abbrev pub decreases-add_stack : goal.decreases-add_stack
decreases-add_stack g l = l.levels * 3 + 2

abbrev pub decreases-add_placed : goal.decreases-add_placed
decreases-add_placed g l = l.levels * 3 + 1

abbrev pub invariant-add_stack-loop-placed : goal.invariant-add_stack-loop-placed
invariant-add_stack-loop-placed g l = record {
  told : (all : Asked) (owner : Owner) → Stand l.surfaces.states l.surfaces.family all
      → l.windows.items ≡ l.initial.windows.items ++ flat_map (placed_windows (told_tree l.levels (rooted l.window.root owner) all) l.window) (take l.placed-index l.stack);
  more : Continues l.initial.windows.items l.windows.items;
  capacity : vec_capacity l.initial.windows ≤ vec_capacity l.windows;
}
