-- The turn alone, or behind the short turns.
use Rattle.std.proofs.lemmas.Result.{on_ok_weaker}
use Rattle.wl_recording.specs.Side.{files_of}
use Rattle.wl_server.specs.Ways.{ways}
use Rattle.wl_program.proofs.Ending.{on_err}
use Rattle.wl_program.proofs.Stepped.{starts-alone, starts-paced, starts-short, step-alone, step-paced}
use Rattle.wl_program.proofs.steps.take_step.Goals as goal

pub returns-in-None-clause-taken : goal.returns-in-None-clause-taken
returns-in-None-clause-taken g c =
    on_ok_weaker c.take_turn.result (λ tells. step-alone (ways g.H.Hub.accepts g.H.Hub.reads g.H.Hub.writes g.H.Hub.closes g.H.Hub.fault_count) (files_of g.S.SideFiles.opens g.S.SideFiles.gives g.S.SideFiles.fault_count) c.args.schedule.pace.rate c.args.time _ _ _ _ _ _ _ _ c.in-None.is tells) c.take_turn.ensures.taken

pub returns-in-None-clause-begun : goal.returns-in-None-clause-begun
returns-in-None-clause-begun g c =
    on_err c.take_turn.result (starts-alone (ways g.H.Hub.accepts g.H.Hub.reads g.H.Hub.writes g.H.Hub.closes g.H.Hub.fault_count) (files_of g.S.SideFiles.opens g.S.SideFiles.gives g.S.SideFiles.fault_count) c.args.schedule.pace.rate c.args.time _ _ _ _ c.in-None.is c.take_turn.ensures.begun)

pub returns-in_err-take_short_turns-in-Some-clause-begun : goal.returns-in_err-take_short_turns-in-Some-clause-begun
returns-in_err-take_short_turns-in-Some-clause-begun g c =
    on_err c.from_residual.result (starts-short (ways g.H.Hub.accepts g.H.Hub.reads g.H.Hub.writes g.H.Hub.closes g.H.Hub.fault_count) (files_of g.S.SideFiles.opens g.S.SideFiles.gives g.S.SideFiles.fault_count) c.args.schedule.pace.rate _ c.args.time _ _ _ _ c.in-Some.is c.in_err-take_short_turns-in-Some.ensures.begun)

pub returns-in_ok-take_short_turns-in-Some-clause-taken : goal.returns-in_ok-take_short_turns-in-Some-clause-taken
returns-in_ok-take_short_turns-in-Some-clause-taken g c =
    on_ok_weaker c.take_shared_turn.result
    (λ tells. step-paced (ways g.H.Hub.accepts g.H.Hub.reads g.H.Hub.writes g.H.Hub.closes g.H.Hub.fault_count) (files_of g.S.SideFiles.opens g.S.SideFiles.gives g.S.SideFiles.fault_count) c.args.schedule.pace.rate _ c.args.time _ _ _ _ _ _ _ _ _ _ _ _ c.in-Some.is c.in_ok-take_short_turns-in-Some.ensures.taken tells)
    c.take_shared_turn.ensures.taken

pub returns-in_ok-take_short_turns-in-Some-clause-begun : goal.returns-in_ok-take_short_turns-in-Some-clause-begun
returns-in_ok-take_short_turns-in-Some-clause-begun g c =
    on_err c.take_shared_turn.result
    (starts-paced (ways g.H.Hub.accepts g.H.Hub.reads g.H.Hub.writes g.H.Hub.closes g.H.Hub.fault_count) (files_of g.S.SideFiles.opens g.S.SideFiles.gives g.S.SideFiles.fault_count) c.args.schedule.pace.rate _ c.args.time _ _ _ _ _ _ _ _ _ _ c.in-Some.is c.in_ok-take_short_turns-in-Some.ensures.taken c.take_shared_turn.ensures.begun)
