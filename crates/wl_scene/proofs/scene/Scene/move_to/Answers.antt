use Rattle.std.proofs.Common.{rules, sym, ap, ◌∙◌}
use Rattle.std.specs.List.{position}
use Rattle.wl_scene.proofs.Stacks.{is_at, moved-absent, moved-found}
use Rattle.wl_scene.proofs.scene.Scene.move_to.Goals as goal

pub returns-in_default-clause-standing : goal.returns-in_default-clause-standing
returns-in_default-clause-standing g c =
    let e = ap (λ ts. position (is_at c.args.surface.client c.args.surface.surface) ts) (sym c.deref.ensures.value) ∙ sym c.in_default.ensures in
    rw (← c.self.view_is) (sym (moved-absent c.args.surface.client c.args.surface.surface _ c.self.inside.standing.items e))

pub returns-clause-standing : goal.returns-clause-standing
returns-clause-standing g c =
    let e = ap (λ ts. position (is_at c.args.surface.client c.args.surface.surface) ts) (sym c.deref.ensures.value) ∙ sym c.in-Some.ensures in
    rw (← c.self.view_is) (moved-found c.args.surface.client c.args.surface.surface _ _ c.self.inside.standing.items c.in-Some.place (search rules) e)
