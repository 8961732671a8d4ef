-- One short turn more is taken, and told of.
use Rattle.std.proofs.Common.{◌∙◌, refl, arith}
use Rattle.wl_recording.specs.Side.{files_of}
use Rattle.wl_server.specs.Ways.{ways}
use Rattle.wl_program.proofs.Stepped.{ShortViewed, tells-zero, viewed-shorts-all, viewed-shorts-more}
use Rattle.wl_program.proofs.steps.take_short_viewed_turns.Goals as goal

pub loop-taken-init : goal.loop-taken-init
loop-taken-init g c = record {
  tells = tells-zero (ShortViewed (ways g.H.Hub.accepts g.H.Hub.reads g.H.Hub.writes g.H.Hub.closes g.H.Hub.fault_count) (ways g.V.Hub.accepts g.V.Hub.reads g.V.Hub.writes g.V.Hub.closes g.V.Hub.fault_count) (files_of g.S.SideFiles.opens g.S.SideFiles.gives g.S.SideFiles.fault_count) c.args.time c.args.viewing.now.width c.args.viewing.now.height) _ _ _ _;
  width = refl;
  height = refl;
}

pub loop-taken-preserved : goal.loop-taken-preserved
loop-taken-preserved g c = record {
  tells =
      viewed-shorts-more (ways g.H.Hub.accepts g.H.Hub.reads g.H.Hub.writes g.H.Hub.closes g.H.Hub.fault_count) (ways g.V.Hub.accepts g.V.Hub.reads g.V.Hub.writes g.V.Hub.closes g.V.Hub.fault_count) (files_of g.S.SideFiles.opens g.S.SideFiles.gives g.S.SideFiles.fault_count) c.args.time c.args.viewing.now.width c.args.viewing.now.height c.loop-taken.viewing.width c.loop-taken.viewing.height c.loop-taken.taken
      _ _ _ _ _ _ _ _ _ _ _ _ c.loop-taken.invariant.width c.loop-taken.invariant.height c.loop-taken.invariant.tells c.in_ok-is_busy.ensures.taken;
  width = c.in_ok-is_busy.ensures.width ∙ c.loop-taken.invariant.width;
  height = c.in_ok-is_busy.ensures.height ∙ c.loop-taken.invariant.height;
}

pub returns-then-is_due-clause-taken : goal.returns-then-is_due-clause-taken
returns-then-is_due-clause-taken g c =
    viewed-shorts-all (ways g.H.Hub.accepts g.H.Hub.reads g.H.Hub.writes g.H.Hub.closes g.H.Hub.fault_count) (ways g.V.Hub.accepts g.V.Hub.reads g.V.Hub.writes g.V.Hub.closes g.V.Hub.fault_count) (files_of g.S.SideFiles.opens g.S.SideFiles.gives g.S.SideFiles.fault_count) c.args.time c.args.viewing.now.width c.args.viewing.now.height c.loop-taken.taken _ _ _ _ _ _ _ _ (omega arith) c.loop-taken.invariant.tells

pub returns-clause-taken : goal.returns-clause-taken
returns-clause-taken g c =
    viewed-shorts-all (ways g.H.Hub.accepts g.H.Hub.reads g.H.Hub.writes g.H.Hub.closes g.H.Hub.fault_count) (ways g.V.Hub.accepts g.V.Hub.reads g.V.Hub.writes g.V.Hub.closes g.V.Hub.fault_count) (files_of g.S.SideFiles.opens g.S.SideFiles.gives g.S.SideFiles.fault_count) c.args.time c.args.viewing.now.width c.args.viewing.now.height c.loop-taken.taken _ _ _ _ _ _ _ _ (omega arith) c.loop-taken.invariant.tells
