use Rattle.std.proofs.Common.{ap, sym, ◌∙◌}
use Rattle.std.specs.Prelude.{is_some}
use Rattle.wl_surface.proofs.Refusing.{taken-link, taken-role}
use Rattle.wl_surface.proofs.surfaces.Surfaces.is_taken.Goals as goal

pub returns-then-is_other_role-clause-taken : goal.returns-then-is_other_role-clause-taken
returns-then-is_other_role-clause-taken g c = λ all stand.
    let v = c.args.self.now in
    c.if-is_other_role.true
    ∙ taken-role v.states v.family all c.args.child c.role.result stand (c.role.ensures _ stand.surfaces) (sym c.is_other_role.ensures ∙ c.if-is_other_role.true)

pub returns-else-is_other_role-clause-taken : goal.returns-else-is_other_role-clause-taken
returns-else-is_other_role-clause-taken g c = λ all stand.
    let v = c.args.self.now in
    taken-link v.states v.family all c.args.child c.role.result c.is_some.result stand (c.role.ensures _ stand.surfaces) (sym c.is_other_role.ensures ∙ c.if-is_other_role.false)
    (c.is_some.ensures ∙ ap is_some c.link.ensures)
