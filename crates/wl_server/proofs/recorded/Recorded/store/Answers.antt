use Rattle.spec_desktop.specs.Act.{Store}
use Rattle.spec_desktop.specs.declared.answers.Done.TheVariants as gave
use Rattle.wl_server.proofs.Histories.{noted-in, recorded-in}
use Rattle.wl_server.proofs.recorded.Recorded.store.Goals as goal

pub invariant_of-self : goal.invariant_of-self
invariant_of-self g c =
    recorded-in g.R.Write.contents (Store c.args.client c.args.store c.args.at c.args.bytes.now) (gave.Store c.store.result) c.self.inside.session c.store.new.self c.self.inside.recording c.settle.new.recording c.note_store.new.recording
    c.self.invariant c.settle.ensures (c.note_store.ensures (gave.Store c.store.result)) c.store.ensures.course

pub returns-clause-noted : goal.returns-clause-noted
returns-clause-noted g c =
    rw (← c.self.view_is) (noted-in g.R.Write.contents c.self.inside.session (Store c.args.client c.args.store c.args.at c.args.bytes.now) (gave.Store c.store.result)
    c.self.inside.recording c.settle.new.recording c.note_store.new.recording
    c.settle.ensures (c.note_store.ensures (gave.Store c.store.result)))
