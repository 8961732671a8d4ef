-- The turn alone, or behind the short turns.
use Rattle.std.proofs.Common.{◌∙◌}
use Rattle.std.proofs.lemmas.Result.{on_ok_weaker}
use Rattle.wl_recording.specs.Side.{files_of}
use Rattle.wl_server.specs.Ways.{ways}
use Rattle.wl_program.proofs.Stepped.{viewed-alone, viewed-paced}
use Rattle.wl_program.proofs.steps.take_viewed_step.Goals as goal

pub returns-in-None-clause-taken : goal.returns-in-None-clause-taken
returns-in-None-clause-taken g c =
    on_ok_weaker c.take_viewed_turn.result
    (λ tells. viewed-alone (ways g.H.Hub.accepts g.H.Hub.reads g.H.Hub.writes g.H.Hub.closes g.H.Hub.fault_count) (ways g.V.Hub.accepts g.V.Hub.reads g.V.Hub.writes g.V.Hub.closes g.V.Hub.fault_count) (files_of g.S.SideFiles.opens g.S.SideFiles.gives g.S.SideFiles.fault_count) c.args.schedule.pace.rate c.args.time c.args.viewing.now.width c.args.viewing.now.height _ _ _ _ _ _ _ _ c.in-None.is tells)
    c.take_viewed_turn.ensures.taken

pub returns-in_ok-take_short_viewed_turns-in-Some-clause-taken : goal.returns-in_ok-take_short_viewed_turns-in-Some-clause-taken
returns-in_ok-take_short_viewed_turns-in-Some-clause-taken g c =
    on_ok_weaker c.take_shared_viewed_turn.result
    (λ tells. viewed-paced (ways g.H.Hub.accepts g.H.Hub.reads g.H.Hub.writes g.H.Hub.closes g.H.Hub.fault_count) (ways g.V.Hub.accepts g.V.Hub.reads g.V.Hub.writes g.V.Hub.closes g.V.Hub.fault_count) (files_of g.S.SideFiles.opens g.S.SideFiles.gives g.S.SideFiles.fault_count) c.args.schedule.pace.rate _ c.args.time c.args.viewing.now.width c.args.viewing.now.height _ _ _ _ _ _ _ _ _ _ _ _ _ _ c.in-Some.is
    c.in_ok-take_short_viewed_turns-in-Some.ensures.width c.in_ok-take_short_viewed_turns-in-Some.ensures.height c.in_ok-take_short_viewed_turns-in-Some.ensures.taken tells)
    c.take_shared_viewed_turn.ensures.taken
