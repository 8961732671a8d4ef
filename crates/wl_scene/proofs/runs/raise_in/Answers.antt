use Rattle.std.proofs.Common.{sym}
use Rattle.wl_scene.specs.Stacked.{is_of}
use Rattle.wl_scene.proofs.Places.{raised-none, run-raised}
use Rattle.wl_scene.proofs.runs.raise_in.Goals as goal

pub returns-in_default-clause-raised : goal.returns-in_default-clause-raised
returns-in_default-clause-raised c = sym (raised-none (is_of c.args.client c.args.toplevel) c.args.all.now c.in_default.ensures)

pub returns-clause-raised : goal.returns-clause-raised
returns-clause-raised c =
    run-raised (is_of c.args.client c.args.toplevel) c.in-Some.run'.start c.in-Some.run'.count c.args.all.now c.put_above.new.all c.in-Some.ensures c.put_above.ensures.put
