use Rattle.std.proofs.Common.{◌∙◌, refl}
use Rattle.wl_table.proofs.Ids.{next_held, none_held}
use Rattle.wl_table.proofs.Places.{next_placed, above_places, next_beside}
use Rattle.wl_table.proofs.objects.Objects.next_after.Goals as goal

pub returns-in-Some : goal.returns-in-Some
returns-in-Some g c =
    let p = rw c.deref.ensures.value at c.in-Some.ensures.some in
    next_placed c.self.inside.row.items c.self.inside.others c.args.self.now c.self.inside.count c.args.id c.in-Some.place c.self.view_is c.self.invariant p.0 p.1 p.2 p.3

pub returns-in_default-next : goal.returns-in_default-next
returns-in_default-next g c = λ other over.
    above_places c.self.inside.row.items c.self.inside.others.entries c.args.self.now c.args.id c.self.view_is (rw c.deref.ensures.value at c.in_default.ensures.none) other over
    ∙ none_held c.self.inside.others.entries c.self.inside.others c.args.id c.range.result refl (c.range.ensures.in_range tt) c.in_default-next.ensures.steps.0 other over

pub returns : goal.returns
returns g c =
    next_beside c.self.inside.others.entries c.args.self.now c.args.id c.in-Some-next.next.now
    (above_places c.self.inside.row.items c.self.inside.others.entries c.args.self.now c.args.id c.self.view_is (rw c.deref.ensures.value at c.in_default.ensures.none))
    (next_held c.self.inside.others.entries c.self.inside.others c.args.id c.in-Some-next.next.now c.in-Some-next.field-0-1.now c.range.result _ refl (c.range.ensures.in_range tt)
    c.in-Some-next.ensures.steps)
