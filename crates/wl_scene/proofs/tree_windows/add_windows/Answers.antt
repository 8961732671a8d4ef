use Rattle.std.proofs.Common.{◌≡◌, ◌++◌, map, arith, to_z, of_z, w32}
use Rattle.std.proofs.lemmas.Int.{ints}
use Rattle.std.proofs.lemmas.Result.{on_ok_weaker}
use Rattle.wl_surface.specs.Linked.{Stand}
use Rattle.spec_desktop.specs.Windows.{Owner, tree}
use Rattle.wl_surface.specs.Surfaces.{Surfaces as Asked}
use Rattle.wl_scene.specs.TreeWindows.{rooted, told_of}
use Rattle.wl_scene.proofs.WindowsTrees.{root-told}
use Rattle.wl_scene.proofs.tree_windows.add_windows.Goals as goal

pub returns-else-is_err-clause-ok : goal.returns-else-is_err-clause-ok
returns-else-is_err-clause-ok g c =
    let x : to_z w32 (of_z w32 c.args.x) ≡ c.args.x = omega (arith, ints) in
    let y : to_z w32 (of_z w32 c.args.y) ≡ c.args.y = omega (arith, ints) in
    on_ok_weaker
    {Q = (all : Asked) (owner : Owner) → Stand c.args.surfaces.now.states c.args.surfaces.now.family all
    → c.add_tree-added.new.windows.items ≡ c.args.windows.now.items ++ map told_of (tree 17 (rooted c.args.root owner) all c.args.root (record { x = c.args.x; y = c.args.y }))}
    c.add_tree-added.result
    (λ told all owner stand.
    root-told all (rooted c.args.root owner) c.args.root c.args.x c.args.y (to_z w32 (of_z w32 c.args.x)) (to_z w32 (of_z w32 c.args.y)) c.args.windows.now.items
    c.add_tree-added.new.windows.items x y (told all owner stand))
    c.add_tree-added.ensures.ok
