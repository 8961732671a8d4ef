use Rattle.std.proofs.Common.{arith, rules}
use Rattle.std.proofs.lemmas.Int.{ints}
use Rattle.wl_shell.proofs.Places.{near-max, near-min, nearest-is, up-to-near}
use Rattle.wl_shell.specs.Placing.{IsNear, first_within, end_within}
use Rattle.wl_shell.proofs.placing.Bounds.nearest.Goals as goal

pub returns-clause-exact : goal.returns-clause-exact
returns-clause-exact c =
    nearest-is (first_within c.args.self.now) (end_within c.args.self.now) c.args.start c.args.size c.difference-last.result c.min.result c.min-2.result _
    (search rules) (search rules) (search rules) (search rules)

pub returns-clause-near : goal.returns-clause-near
returns-clause-near c =
    let first = up-to-near _ c.first-first.ensures.near in
    let last : IsNear c.difference-last.result = (omega (arith, ints), omega (arith, ints)) in
    let low : IsNear c.min.result = near-min c.first-first.result c.difference-last.result _ (search rules) first last in
    let far : IsNear c.max.result = near-max c.first-first.result c.difference-last.result _ (search rules) first last in
    let high : IsNear c.min-2.result = near-min c.args.start c.max.result _ (search rules) c.requires far in
    near-max c.min.result c.min-2.result _ (search rules) low high
