use Rattle.std.proofs.Common.{arith, rules}
use Rattle.std.proofs.lemmas.Int.{ints}
use Rattle.wl_shell.proofs.Places.{part-is}
use Rattle.wl_shell.specs.Placing.{first_within, end_within}
use Rattle.wl_shell.proofs.placing.Bounds.part_within.Goals as goal

pub returns-then-from-to : goal.returns-then-from-to
returns-then-from-to c =
    part-is (first_within c.args.self.now) (end_within c.args.self.now) c.args.start c.args.size _ c.min-to.result _
    (search rules) (search rules) (search rules) (omega (arith, ints))
