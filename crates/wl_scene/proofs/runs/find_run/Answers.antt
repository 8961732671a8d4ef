use Rattle.std.proofs.Common.{sym, ◌∙◌}
use Rattle.wl_scene.specs.Stacked.{is_of}
use Rattle.wl_scene.proofs.Places.{none-there, run-there}
use Rattle.wl_scene.proofs.runs.find_run.Goals as goal

pub returns-in_err-start : goal.returns-in_err-start
returns-in_err-start c =
    rw c.from_residual.ensures (none-there (is_of c.args.client c.args.toplevel) c.args.all.now (sym c.position_of.ensures ∙ c.in_err-start.was))

pub returns : goal.returns
returns c =
    run-there (is_of c.args.client c.args.toplevel) c.args.all.now c.in_ok-start.start c.count_of-count.result (sym c.position_of.ensures ∙ c.in_ok-start.was)
    (c.requires c.args.client c.args.toplevel) c.count_of-count.ensures
