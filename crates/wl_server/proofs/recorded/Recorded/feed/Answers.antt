use Rattle.spec_desktop.specs.Act.{Feed}
use Rattle.spec_desktop.specs.declared.answers.Done.TheVariants as gave
use Rattle.wl_server.proofs.Histories.{noted-behind, recorded-on}
use Rattle.wl_server.proofs.recorded.Recorded.feed.Goals as goal

pub invariant_of-self : goal.invariant_of-self
invariant_of-self g c =
    recorded-on g.R.Write.contents (Feed c.args.client c.args.piece.now) (gave.Feed c.feed.result) c.self.inside.session c.feed.new.self c.self.inside.recording c.settle.new.recording c.note_fed.new.recording
    c.self.invariant c.settle.ensures (c.note_fed.ensures (gave.Feed c.feed.result)) c.feed.ensures.course

pub returns-clause-noted : goal.returns-clause-noted
returns-clause-noted g c =
    rw (← c.self.view_is) (noted-behind g.R.Write.contents c.self.inside.session (Feed c.args.client c.args.piece.now) (gave.Feed c.feed.result) c.self.inside.recording c.settle.new.recording c.note_fed.new.recording
    c.settle.ensures (c.note_fed.ensures (gave.Feed c.feed.result)))
