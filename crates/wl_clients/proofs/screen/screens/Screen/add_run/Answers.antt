use Rattle.std.proofs.Common.{ap₂, map, rules, ◌≡◌, ◌∙◌}
use Rattle.std.proofs.Common.{ℤ, of_z, to_z, w32}
use Rattle.std.specs.Prelude.{List}
use Rattle.wl_scene.specs.Kept.{standing_of}
use Rattle.wl_scene.specs.Roots.{standing_at, told_root}
use Rattle.wl_scene.specs.declared.roots.RootPlace.{RootPlace}
use Rattle.spec_desktop.specs.Popups.{stacked_popups}
use Rattle.spec_desktop.specs.Stacking.{root_of}
use Rattle.spec_desktop.specs.Windows.{roots_of}
use Rattle.wl_clients.proofs.OnScreen.Adding.{run-added}
use Rattle.wl_clients.proofs.screen.screens.Screen.add_run.Goals as goal

pub returns-clause-is : goal.returns-clause-is
returns-clause-is g c =
    let s = c.args.self.now in
    let t = c.in-Some-toplevel_of.stands in
    let added = c.add_trees-added.ensures in
    let x : to_z w32 (of_z w32 t.x) ≡ t.x = search rules in
    let y : to_z w32 (of_z w32 t.y) ≡ t.y = search rules in
    run-added c.args.resident.now c.args.client c.in-Some.surface c.args.toplevel (standing_of t) s.scene.standing c.places-roots.result.now c.add_trees-added.result s.spare.is.items
    c.add_trees-added.new.windows.items _ _ c.in-Some.is c.in-Some-toplevel_of.ensures
    (λ o client held rising role few.
    let told : ℤ → ℤ → List RootPlace =
    λ a b. map told_root (roots_of o.surfaces (root_of (λ _. o) (standing_at client c.in-Some.surface a b)) (stacked_popups o)) in
    c.places-roots.ensures ∙ (c.find.ensures o client held rising role few ∙ ap₂ told x y)) added.ok added.succeeds
