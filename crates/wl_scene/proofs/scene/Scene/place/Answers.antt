use Rattle.std.proofs.Common.{◌≡◌, Some, None, ap, ap₂, sym, ◌∙◌, rules, to_z, of_z, w32}
use Rattle.std.specs.Prelude.{find}
use Rattle.wl_scene.proofs.Geometry.{place-found}
use Rattle.wl_scene.proofs.Stacks.{is_at}
use Rattle.wl_scene.proofs.scene.Scene.place.Goals as goal

pub returns-in-None : goal.returns-in-None
returns-in-None g c =
    let items = c.self.inside.standing.items in
    let e : find (is_at c.args.surface.client c.args.surface.surface) items ≡ None =
    ap (find (is_at c.args.surface.client c.args.surface.surface)) (sym c.deref.ensures.value) ∙ sym c.in-None.ensures in
    rw (← c.self.view_is) (sym (place-found c.args.surface.client c.args.surface.surface items None e))

pub returns-in-Some : goal.returns-in-Some
returns-in-Some g c =
    let items = c.self.inside.standing.items in
    let e : find (is_at c.args.surface.client c.args.surface.surface) items ≡ Some c.in-Some.toplevel.now =
    ap (find (is_at c.args.surface.client c.args.surface.surface)) (sym c.deref.ensures.value) ∙ sym c.in-Some.ensures in
    let x : to_z w32 (of_z w32 c.in-Some.toplevel.now.x) ≡ c.in-Some.toplevel.now.x = search rules in
    let y : to_z w32 (of_z w32 c.in-Some.toplevel.now.y) ≡ c.in-Some.toplevel.now.y = search rules in
    rw (← c.self.view_is)
    (ap₂ (λ x y. Some (record { x = x; y = y })) x y ∙ sym (place-found c.args.surface.client c.args.surface.surface items (Some c.in-Some.toplevel.now) e))
