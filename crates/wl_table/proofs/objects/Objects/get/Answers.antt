use Rattle.std.proofs.Common.{◌∙◌, arith}
use Rattle.wl_table.proofs.Places.{found_at, found_beside}
use Rattle.wl_table.proofs.objects.Objects.get.Goals as goal

pub returns-in-Some : goal.returns-in-Some
returns-in-Some g c = found_at c.self.inside.row.items c.self.inside.others c.args.self.now c.self.inside.count c.args.id c.in-Some.place c.index.result.now c.self.view_is c.self.invariant
    (omega (arith, c.in-Some.ensures.some)) (omega (arith, c.in-Some.ensures.some, c.len.ensures)) c.index.ensures

pub returns-in-None : goal.returns-in-None
returns-in-None g c = c.copied.ensures ∙ c.get.ensures.value ∙ found_beside c.self.inside.row.items c.self.inside.others c.args.self.now c.args.id c.self.view_is
    (grind (arith, c.in-None.ensures.none, c.len.ensures))
