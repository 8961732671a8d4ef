-- One turn more is taken, and told of.
use Rattle.std.proofs.Common.{arith}
use Rattle.wl_recording.specs.Side.{files_of}
use Rattle.wl_server.specs.Ways.{ways}
use Rattle.wl_program.proofs.Ending.{on_err}
use Rattle.wl_program.proofs.Served.{turns-all, turns-begun, turns-more, turns-none}
use Rattle.wl_program.proofs.serving.serve_on.Goals as goal

pub loop-before-init : goal.loop-before-init
loop-before-init g c =
    turns-none (ways g.H.Hub.accepts g.H.Hub.reads g.H.Hub.writes g.H.Hub.closes g.H.Hub.fault_count)
    (files_of g.S.SideFiles.opens g.S.SideFiles.gives g.S.SideFiles.fault_count) c.args.schedule.pace.rate _ _ _ _

pub loop-before-preserved : goal.loop-before-preserved
loop-before-preserved g c =
    turns-more (ways g.H.Hub.accepts g.H.Hub.reads g.H.Hub.writes g.H.Hub.closes g.H.Hub.fault_count)
    (files_of g.S.SideFiles.opens g.S.SideFiles.gives g.S.SideFiles.fault_count) c.args.schedule.pace.rate c.loop-before.before _ _ _ _ _ _ _ _ _ _ _ _ _
    c.time_of-time.ensures c.loop-before.invariant c.in_ok-take_step.ensures.taken

pub returns-clause-taken : goal.returns-clause-taken
returns-clause-taken g c =
    turns-all (ways g.H.Hub.accepts g.H.Hub.reads g.H.Hub.writes g.H.Hub.closes g.H.Hub.fault_count)
    (files_of g.S.SideFiles.opens g.S.SideFiles.gives g.S.SideFiles.fault_count) c.args.schedule.pace.rate c.args.schedule.pace.turns c.loop-before.before _ _ _ _ _ _ _ _ (omega arith)
    c.loop-before.invariant

pub returns-in_err-take_step-clause-begun : goal.returns-in_err-take_step-clause-begun
returns-in_err-take_step-clause-begun g c =
    on_err _ (turns-begun (ways g.H.Hub.accepts g.H.Hub.reads g.H.Hub.writes g.H.Hub.closes g.H.Hub.fault_count)
    (files_of g.S.SideFiles.opens g.S.SideFiles.gives g.S.SideFiles.fault_count) c.args.schedule.pace.rate c.args.schedule.pace.turns c.loop-before.before _ _ _ _ _ _ _ _ _ _ _ (omega arith)
    c.time_of-time.ensures c.loop-before.invariant c.in_err-take_step.ensures.begun)
