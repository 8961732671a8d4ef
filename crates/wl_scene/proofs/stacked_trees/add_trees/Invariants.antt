use Rattle.std.proofs.Common.{◌≡◌, ◌≤◌, ◌++◌, take}
use Rattle.std.specs.Prelude.{vec_capacity}
use Rattle.wl_surface.specs.Linked.{Stand}
use Rattle.spec_desktop.specs.Windows.{Owner}
use Rattle.wl_surface.specs.Surfaces.{Surfaces as Asked}
use Rattle.wl_scene.specs.Told.{told_trees}
use Rattle.wl_scene.proofs.stacked_trees.add_trees.Given as goal

abbrev pub invariant-loop-root : goal.invariant-loop-root
invariant-loop-root g l = record {
  told : (all : Asked) (owner : Owner) → Stand l.surfaces.states l.surfaces.family all
      → l.windows.items ≡ l.initial.windows.items ++ told_trees owner all (take l.root-index l.roots);
  capacity : vec_capacity l.initial.windows ≤ vec_capacity l.windows;
}
