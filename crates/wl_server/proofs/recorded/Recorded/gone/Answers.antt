use Rattle.spec_desktop.specs.Act.{Leave}
use Rattle.spec_desktop.specs.declared.answers.Done.TheVariants as gave
use Rattle.wl_server.proofs.Histories.{noted-behind, recorded-on}
use Rattle.wl_server.proofs.recorded.Recorded.gone.Goals as goal

pub invariant_of-self : goal.invariant_of-self
invariant_of-self g c =
    recorded-on g.R.Write.contents (Leave c.args.client) (gave.Gone c.gone.result) c.self.inside.session c.gone.new.self c.self.inside.recording c.settle.new.recording c.note_gone.new.recording
    c.self.invariant c.settle.ensures (c.note_gone.ensures (gave.Gone c.gone.result)) c.gone.ensures.course

pub returns-clause-noted : goal.returns-clause-noted
returns-clause-noted g c =
    rw (← c.self.view_is) (noted-behind g.R.Write.contents c.self.inside.session (Leave c.args.client) (gave.Gone c.gone.result) c.self.inside.recording c.settle.new.recording c.note_gone.new.recording
    c.settle.ensures (c.note_gone.ensures (gave.Gone c.gone.result)))
