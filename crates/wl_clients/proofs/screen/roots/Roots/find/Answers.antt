use Rattle.std.proofs.Common.{◌≡◌, ◌++◌, IsOk, List, OnOk, Result, Err, Ok, ℤ, ap, ap₂, arith, map, of_z, to_z, w32, ◌∙◌}
use Rattle.std.proofs.lemmas.Int.{ints}
use Rattle.wl_scene.specs.Roots.{standing_at, told_root}
use Rattle.wl_scene.specs.declared.roots.RootPlace.{RootPlace}
use Rattle.spec_desktop.specs.Popups.{stacked_popups}
use Rattle.spec_desktop.specs.Stacking.{root_of}
use Rattle.spec_desktop.specs.Windows.{roots_of}
use Rattle.wl_clients.proofs.OnScreen.Rooms.{few-roots}
use Rattle.wl_clients.proofs.screen.roots.Roots.find.Goals as goal

-- what holds of a call that succeeds, where it does
so : {X Y : Type 0} (r : Result X Y) (P : Type 0) → OnOk r P → IsOk r → P
so (Ok x) P on is = on
so (Err e) P on is = absurd (cc)

pub returns : goal.returns
returns g c = λ o client held rising role few.
    let x : to_z w32 (of_z w32 c.args.x) ≡ c.args.x = omega (arith, ints) in
    let y : to_z w32 (of_z w32 c.args.y) ≡ c.args.y = omega (arith, ints) in
    let told : ℤ → ℤ → List RootPlace =
    λ a b. map told_root (roots_of o.surfaces (root_of (λ _. o) (standing_at client c.args.toplevel a b)) (stacked_popups o)) in
    let fit = few-roots o (root_of (λ _. o) (standing_at client c.args.toplevel (to_z w32 (of_z w32 c.args.x)) (to_z w32 (of_z w32 c.args.y)))) few in
    let none = c.clear.ensures.len in
    let room = c.clear.ensures.capacity in
    let kept = c.self.invariant in
    let added = c.add_roots-added.ensures in
    so c.add_roots-added.result _ added.ok (added.succeeds o client held rising role (omega (arith, fit, none, room, kept))) o client held rising role
    ∙ (ap (λ (rs : List RootPlace). rs ++ told (to_z w32 (of_z w32 c.args.x)) (to_z w32 (of_z w32 c.args.y))) c.clear.ensures.items ∙ ap₂ told x y)
