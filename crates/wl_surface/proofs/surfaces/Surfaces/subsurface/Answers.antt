use Rattle.std.proofs.Common.{ap, refl}
use Rattle.wl_surface.proofs.Refusing.{deep-so, given, memory-leaves, memory-so, never-refused, of-memory, on-err, on-ok, parent-so, role-so}
use Rattle.wl_surface.proofs.Standing.{linked-stands, unlinked-stands}
use Rattle.wl_surface.specs.Linked.{SurfacesView}
use Rattle.wl_surface.proofs.surfaces.Surfaces.subsurface.Goals as goal

pub returns-then-is_too_deep-clause-refused : goal.returns-then-is_too_deep-clause-refused
returns-then-is_too_deep-clause-refused g c = λ all stand.
    let v = c.args.self.now in
    deep-so v.states v.family all c.args.child c.args.parent c.is_too_deep.ensures.stand stand c.is_too_deep.result c.is_too_deep.ensures.deep c.if-is_too_deep.true

pub returns-then-is_taken-clause-refused : goal.returns-then-is_taken-clause-refused
returns-then-is_taken-clause-refused g c = λ all stand.
    let v = c.args.self.now in
    role-so v.states v.family all c.args.child c.args.parent c.is_too_deep.ensures.stand stand c.is_too_deep.result c.is_too_deep.ensures.deep c.if-is_too_deep.false
    c.is_taken.result (c.is_taken.ensures.taken all stand) c.if-is_taken.true

pub returns-then-is_under-clause-refused : goal.returns-then-is_under-clause-refused
returns-then-is_under-clause-refused g c = λ all stand.
    let v = c.args.self.now in
    parent-so v.states v.family all c.args.child c.args.parent c.is_too_deep.ensures.stand stand c.is_too_deep.result c.is_too_deep.ensures.deep c.if-is_too_deep.false
    c.is_taken.result (c.is_taken.ensures.taken all stand) c.if-is_taken.false c.is_under.result c.is_under.ensures c.if-is_under.true

pub returns-in_err-join-clause-refused : goal.returns-in_err-join-clause-refused
returns-in_err-join-clause-refused g c = λ all stand.
    let v = c.args.self.now in
    memory-so v.states v.family all c.args.child c.args.parent c.is_too_deep.ensures.stand stand c.is_too_deep.result c.is_too_deep.ensures.deep c.if-is_too_deep.false
    c.is_taken.result (c.is_taken.ensures.taken all stand) c.if-is_taken.false c.is_under.result c.is_under.ensures c.from_residual.result c.if-is_under.false
    (of-memory c.from_residual.result c.from_residual.ensures.1)

pub returns-in_err-join-clause-err : goal.returns-in_err-join-clause-err
returns-in_err-join-clause-err g c = rw (← c.self.view_is) (on-err c.from_residual.result (λ _ all stand first second.
    let v = c.self.inside in
    unlinked-stands v.states v.family c.join.new.self all c.args.child c.args.parent c.in_err-join.ensures.same_links c.in_err-join.ensures.same_stacks c.join.ensures.come stand first second))

pub returns-clause-ok : goal.returns-clause-ok
returns-clause-ok g c =
    let v = c.args.self.now in
    on-ok c.give_role.result (rw (ap (λ (v : SurfacesView). v.states) c.self.view_is) at c.give_role.ensures.ok) (λ changes all number stand free first second.
    linked-stands v.states c.give_role.new.self v.family c.join.new.self all number c.args.child c.args.parent changes (rw (ap (λ (v : SurfacesView). v.family) c.self.view_is) at c.in_ok-join.ensures.links) (rw (ap (λ (v : SurfacesView). v.family) c.self.view_is) at c.in_ok-join.ensures.stacks)
    (c.is_taken.ensures.free c.if-is_taken.false) (rw (ap (λ (v : SurfacesView). v.family) c.self.view_is) at c.join.ensures.come) stand free first second)

pub returns-clause-refused : goal.returns-clause-refused
returns-clause-refused g c = λ all stand.
    let v = c.args.self.now in
    let taken = c.is_taken.ensures.taken all stand in
    memory-so v.states v.family all c.args.child c.args.parent c.is_too_deep.ensures.stand stand c.is_too_deep.result c.is_too_deep.ensures.deep c.if-is_too_deep.false
    c.is_taken.result taken c.if-is_taken.false c.is_under.result c.is_under.ensures c.give_role.result c.if-is_under.false
    (given c.give_role.result (never-refused all c.args.child c.is_taken.result c.give_role.result taken c.if-is_taken.false ((rw (ap (λ (v : SurfacesView). v.states) c.self.view_is) at c.give_role.ensures.refused) _ stand.surfaces).0))

pub returns-clause-err : goal.returns-clause-err
returns-clause-err g c = on-err c.give_role.result (λ is all stand first second.
    absurd (never-refused all c.args.child c.is_taken.result c.give_role.result (c.is_taken.ensures.taken all stand) c.if-is_taken.false ((rw (ap (λ (v : SurfacesView). v.states) c.self.view_is) at c.give_role.ensures.refused) _ stand.surfaces).0 is))

pub returns-in_err-join-clause-unchanged : goal.returns-in_err-join-clause-unchanged
returns-in_err-join-clause-unchanged g c = λ all stand. memory-leaves c.from_residual.result _ (of-memory c.from_residual.result c.from_residual.ensures.1)

pub returns-clause-unchanged : goal.returns-clause-unchanged
returns-clause-unchanged g c = λ all stand.
    memory-leaves c.give_role.result _
    (given c.give_role.result (never-refused all c.args.child c.is_taken.result c.give_role.result (c.is_taken.ensures.taken all stand) c.if-is_taken.false ((rw (ap (λ (v : SurfacesView). v.states) c.self.view_is) at c.give_role.ensures.refused) _ stand.surfaces).0))

pub returns-in_err-join-clause-kept : goal.returns-in_err-join-clause-kept
returns-in_err-join-clause-kept g c = rw (← c.self.view_is) (λ all stand. on-err c.from_residual.result (λ _. (refl, c.in_err-join.ensures.same_links, c.in_err-join.ensures.same_stacks)))

pub returns-clause-kept : goal.returns-clause-kept
returns-clause-kept g c = λ all stand.
    on-err c.give_role.result (λ is.
    absurd (never-refused all c.args.child c.is_taken.result c.give_role.result (c.is_taken.ensures.taken all stand) c.if-is_taken.false ((rw (ap (λ (v : SurfacesView). v.states) c.self.view_is) at c.give_role.ensures.refused) _ stand.surfaces).0 is))
