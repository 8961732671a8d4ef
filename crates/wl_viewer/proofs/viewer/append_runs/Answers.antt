use Rattle.std.proofs.Common.{arith}
use Rattle.std.proofs.lemmas.List.{drop_all, drop_more}
use Rattle.wl_session.specs.declared.shots.Run.{Run}
use Rattle.wl_viewer.proofs.Appended.{appended-all, appended-lies, appended-more, appended-none}
use Rattle.wl_viewer.proofs.viewer.append_runs.Goals as goal

pub loop-run-init : goal.loop-run-init
loop-run-init g c = appended-none c.args.frame.now c.args.runs.now c.args.out.now.items c.requires

pub append_run-requires : goal.append_run-requires
append_run-requires g c =
    let none : Run = record { x = 0; y = 0; w = 0 } in
    appended-lies c.args.frame.now c.args.runs.now _ _ _ c.args.out.now.items c.loop-run.out.items (drop_more c.args.runs.now c.loop-run.run-index none (omega arith)) c.loop-run.invariant

pub loop-run-preserved : goal.loop-run-preserved
loop-run-preserved g c =
    let none : Run = record { x = 0; y = 0; w = 0 } in
    appended-more c.args.frame.now c.args.runs.now _ _ _ c.args.out.now.items c.loop-run.out.items c.append_run.new.out.items (drop_more c.args.runs.now c.loop-run.run-index none (omega arith))
    c.in_ok-append_run.ensures c.loop-run.invariant

pub returns : goal.returns
returns g c = appended-all c.args.frame.now c.args.runs.now _ c.args.out.now.items c.loop-run.out.items (drop_all c.loop-run.run-index c.args.runs.now (omega arith)) c.loop-run.invariant
