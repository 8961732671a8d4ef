use Rattle.std.proofs.Common.{rules, ◌≡◌, sym, ap, ◌∙◌, ◌++◌, ◌∷◌, [], take, drop, length, map, get_or}
use Rattle.std.specs.List.{position, remove}
use Rattle.wl_scene.proofs.Stacks.{is_at, nobody, raised-absent, raised-found, written-whole}
use Rattle.wl_scene.proofs.scene.Scene.raise.Goals as goal
use Rattle.wl_scene.specs.Kept.{standing_of}

pub returns-in_default-clause-standing : goal.returns-in_default-clause-standing
returns-in_default-clause-standing g c =
    let e = ap (λ ts. position (is_at c.args.surface.client c.args.surface.surface) ts) (sym c.deref.ensures.value) ∙ sym c.in_default.ensures in
    rw (← c.self.view_is) (sym (raised-absent c.args.surface.client c.args.surface.surface c.self.inside.standing.items e))

pub returns-clause-standing : goal.returns-clause-standing
returns-clause-standing g c =
    let e = ap (λ ts. position (is_at c.args.surface.client c.args.surface.surface) ts) (sym c.deref.ensures.value) ∙ sym c.in-Some.ensures in
    let found = raised-found c.args.surface.client c.args.surface.surface c.self.inside.standing.items c.in-Some.place e in
    let whole : take c.self.inside.standing.len (c.to_top.new.standing ++ drop (length c.to_top.new.standing) c.self.inside.standing.items) ≡ c.to_top.new.standing =
    written-whole _ _ _ (search rules) in
    let same = ap (λ ts. remove ts c.in-Some.place ++ get_or ts c.in-Some.place nobody ∷ []) c.deref_mut.ensures.value in
    rw (← c.self.view_is) (ap (λ ts. map standing_of ts) (whole ∙ c.to_top.ensures.top nobody ∙ same) ∙ found)
