-- The flush keeps what was told.
use Rattle.wl_program.proofs.Ending.{on_ok, played-kept, stops-with}
use Rattle.wl_program.proofs.run.play.Goals as goal

pub returns-in-Ok-clause-played : goal.returns-in-Ok-clause-played
returns-in-Ok-clause-played g c =
    on_ok c.flush-flushed.result (played-kept c.args.replay c.in-Ok.field-0 _ c.replay-played.new.side _ _ _ _ _ _ c.new-side.ensures c.in-Ok.ensures.played c.flush-flushed.ensures.kept)

pub returns-clause-failed : goal.returns-clause-failed
returns-clause-failed g c =
    rw c.fault_of.ensures (stops-with c.lacks_memory.result c.args.replay c.in-Err.error _ c.replay-played.new.side _ _ _ _ _ _ c.new-side.ensures c.in-Err.ensures.stopped c.flush-flushed.ensures.kept)
