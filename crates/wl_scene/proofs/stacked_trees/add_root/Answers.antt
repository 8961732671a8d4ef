use Rattle.std.proofs.Common.{◌≡◌, ◌++◌, ◌∙◌, ap₂, arith, length, of_z, to_z, w32, ℤ}
use Rattle.std.proofs.lemmas.Int.{ints}
use Rattle.std.proofs.lemmas.List.{length-map}
use Rattle.std.proofs.lemmas.Result.{on_ok_weaker}
use Rattle.wl_surface.specs.Linked.{Stand}
use Rattle.spec_desktop.specs.Windows.{Owner, tree}
use Rattle.wl_surface.specs.Surfaces.{Surfaces as Asked}
use Rattle.wl_scene.specs.TreeWindows.{rooted, told_of, told_tree}
use Rattle.wl_scene.specs.Told.{told_at}
use Rattle.wl_scene.proofs.stacked_trees.add_root.Goals as goal

pub returns-clause-ok : goal.returns-clause-ok
returns-clause-ok g c =
    let x : to_z w32 (of_z w32 c.args.root.now.x) ≡ c.args.root.now.x = omega (arith, ints) in
    let y : to_z w32 (of_z w32 c.args.root.now.y) ≡ c.args.root.now.y = omega (arith, ints) in
    on_ok_weaker
    {Q = (all : Asked) (owner : Owner) → Stand c.args.surfaces.now.states c.args.surfaces.now.family all
    → c.add_windows.new.windows.items ≡ c.args.windows.now.items ++ told_at owner all c.args.root.now}
    c.add_windows.result
    (λ told all owner stand.
    told all owner stand
    ∙ ap₂ (λ (a b : ℤ). c.args.windows.now.items ++ told_tree 17 (rooted c.args.root.now.surface owner) all c.args.root.now.surface (record { x = a; y = b })) x y)
    c.add_windows.ensures.ok

pub returns-clause-succeeds : goal.returns-clause-succeeds
returns-clause-succeeds g c = λ all owner stand fits.
    let x : to_z w32 (of_z w32 c.args.root.now.x) ≡ c.args.root.now.x = omega (arith, ints) in
    let y : to_z w32 (of_z w32 c.args.root.now.y) ≡ c.args.root.now.y = omega (arith, ints) in
    let there = ap₂ (λ (a b : ℤ). length (tree 17 (rooted c.args.root.now.surface owner) all c.args.root.now.surface (record { x = a; y = b }))) x y in
    let long = length-map (tree 17 (rooted c.args.root.now.surface owner) all c.args.root.now.surface (record { x = c.args.root.now.x; y = c.args.root.now.y })) told_of in
    c.add_windows.ensures.succeeds all owner stand (omega (arith, there, long, fits))
