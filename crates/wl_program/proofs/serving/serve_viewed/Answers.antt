-- One turn more is taken, and told of.
use Rattle.std.proofs.Common.{◌∙◌, refl, arith}
use Rattle.wl_recording.specs.Side.{files_of}
use Rattle.wl_server.specs.Ways.{ways}
use Rattle.wl_program.proofs.Served.{viewed-all, viewed-more, viewed-none}
use Rattle.wl_program.proofs.serving.serve_viewed.Goals as goal

pub loop-before-init : goal.loop-before-init
loop-before-init g c = record {
  tells = viewed-none (ways g.H.Hub.accepts g.H.Hub.reads g.H.Hub.writes g.H.Hub.closes g.H.Hub.fault_count) (ways g.V.Hub.accepts g.V.Hub.reads g.V.Hub.writes g.V.Hub.closes g.V.Hub.fault_count) (files_of g.S.SideFiles.opens g.S.SideFiles.gives g.S.SideFiles.fault_count) c.args.schedule.pace.rate c.args.viewing.now.width c.args.viewing.now.height _ _ _ _;
  width = refl;
  height = refl;
}

pub loop-before-preserved : goal.loop-before-preserved
loop-before-preserved g c = record {
  tells =
      viewed-more (ways g.H.Hub.accepts g.H.Hub.reads g.H.Hub.writes g.H.Hub.closes g.H.Hub.fault_count) (ways g.V.Hub.accepts g.V.Hub.reads g.V.Hub.writes g.V.Hub.closes g.V.Hub.fault_count) (files_of g.S.SideFiles.opens g.S.SideFiles.gives g.S.SideFiles.fault_count) c.args.schedule.pace.rate c.args.viewing.now.width c.args.viewing.now.height c.loop-before.viewing.width c.loop-before.viewing.height c.loop-before.before
      _ _ _ _ _ _ _ _ _ _ _ _ _ c.time_of-time.ensures c.loop-before.invariant.width c.loop-before.invariant.height c.loop-before.invariant.tells c.in_ok-take_viewed_step.ensures.taken;
  width = c.in_ok-take_viewed_step.ensures.width ∙ c.loop-before.invariant.width;
  height = c.in_ok-take_viewed_step.ensures.height ∙ c.loop-before.invariant.height;
}

pub returns-clause-taken : goal.returns-clause-taken
returns-clause-taken g c =
    viewed-all (ways g.H.Hub.accepts g.H.Hub.reads g.H.Hub.writes g.H.Hub.closes g.H.Hub.fault_count) (ways g.V.Hub.accepts g.V.Hub.reads g.V.Hub.writes g.V.Hub.closes g.V.Hub.fault_count) (files_of g.S.SideFiles.opens g.S.SideFiles.gives g.S.SideFiles.fault_count) c.args.schedule.pace.rate c.args.schedule.pace.turns c.args.viewing.now.width c.args.viewing.now.height c.loop-before.before _ _ _ _ _ _ _ _ (omega arith)
    c.loop-before.invariant.tells
