-- One short turn more is taken, and told of.
use Rattle.std.proofs.Common.{arith}
use Rattle.wl_recording.specs.Side.{files_of}
use Rattle.wl_server.specs.Ways.{ways}
use Rattle.wl_program.proofs.Ending.{on_err}
use Rattle.wl_program.proofs.Stepped.{Short, shorts-all, shorts-begun, tells-turn, tells-zero}
use Rattle.wl_program.proofs.steps.take_short_turns.Goals as goal

pub loop-taken-init : goal.loop-taken-init
loop-taken-init g c = tells-zero (Short (ways g.H.Hub.accepts g.H.Hub.reads g.H.Hub.writes g.H.Hub.closes g.H.Hub.fault_count) (files_of g.S.SideFiles.opens g.S.SideFiles.gives g.S.SideFiles.fault_count)) _ _ _ _

pub loop-taken-preserved : goal.loop-taken-preserved
loop-taken-preserved g c =
    tells-turn (Short (ways g.H.Hub.accepts g.H.Hub.reads g.H.Hub.writes g.H.Hub.closes g.H.Hub.fault_count) (files_of g.S.SideFiles.opens g.S.SideFiles.gives g.S.SideFiles.fault_count)) c.loop-taken.taken _ _ _ _ _ _ _ _ _ _ _ _ c.loop-taken.invariant c.in_ok-is_busy.ensures.taken

pub returns-then-is_due-clause-taken : goal.returns-then-is_due-clause-taken
returns-then-is_due-clause-taken g c = shorts-all (ways g.H.Hub.accepts g.H.Hub.reads g.H.Hub.writes g.H.Hub.closes g.H.Hub.fault_count) (files_of g.S.SideFiles.opens g.S.SideFiles.gives g.S.SideFiles.fault_count) c.loop-taken.taken _ _ _ _ _ _ _ _ (omega arith) c.loop-taken.invariant

pub returns-in_err-is_busy-clause-begun : goal.returns-in_err-is_busy-clause-begun
returns-in_err-is_busy-clause-begun g c =
    on_err c.from_residual.result (shorts-begun (ways g.H.Hub.accepts g.H.Hub.reads g.H.Hub.writes g.H.Hub.closes g.H.Hub.fault_count) (files_of g.S.SideFiles.opens g.S.SideFiles.gives g.S.SideFiles.fault_count) c.loop-taken.taken _ _ _ _ _ _ _ _ _ _ (omega arith) c.loop-taken.invariant c.in_err-is_busy.ensures.begun)

pub returns-clause-taken : goal.returns-clause-taken
returns-clause-taken g c = shorts-all (ways g.H.Hub.accepts g.H.Hub.reads g.H.Hub.writes g.H.Hub.closes g.H.Hub.fault_count) (files_of g.S.SideFiles.opens g.S.SideFiles.gives g.S.SideFiles.fault_count) c.loop-taken.taken _ _ _ _ _ _ _ _ (omega arith) c.loop-taken.invariant
