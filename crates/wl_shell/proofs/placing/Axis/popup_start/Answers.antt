use Rattle.std.proofs.Common.{arith, rules}
use Rattle.std.proofs.lemmas.Int.{ints}
use Rattle.wl_shell.proofs.Places.{start-is}
use Rattle.wl_shell.specs.Placing.{axis_of}
use Rattle.wl_shell.proofs.placing.Axis.popup_start.Goals as goal

pub returns-clause-exact : goal.returns-clause-exact
returns-clause-exact c =
    start-is (axis_of c.args.self.now) c.before-2.result c.before-before.result _ (search rules) (search rules) (omega (arith, ints))

pub returns-clause-near : goal.returns-clause-near
returns-clause-near c = (omega (arith, ints), omega (arith, ints))
