use Rattle.std.proofs.lemmas.Result.{on_ok_weaker}
use Rattle.wl_server.proofs.Histories.{flushed-behind, recorded-flushed}
use Rattle.wl_server.proofs.recorded.Recorded.flush.Goals as goal

pub invariant_of-self : goal.invariant_of-self
invariant_of-self g c =
    recorded-flushed g.R.Write.contents c.self.inside.session c.self.inside.recording c.settle.new.recording c.flush_recording.new.recording c.self.invariant c.settle.ensures c.flush_recording.ensures.notes

pub returns-clause-recorded : goal.returns-clause-recorded
returns-clause-recorded g c =
    on_ok_weaker c.flush_recording.result
    (λ whole. (recorded-flushed g.R.Write.contents c.self.inside.session c.self.inside.recording c.settle.new.recording c.flush_recording.new.recording c.self.invariant c.settle.ensures c.flush_recording.ensures.notes, whole))
    c.flush_recording.ensures.whole

pub returns-clause-noted : goal.returns-clause-noted
returns-clause-noted g c =
    rw (← c.self.view_is) (flushed-behind g.R.Write.contents c.self.inside.session c.self.inside.recording c.settle.new.recording c.flush_recording.new.recording
    c.settle.ensures c.flush_recording.ensures.notes)
