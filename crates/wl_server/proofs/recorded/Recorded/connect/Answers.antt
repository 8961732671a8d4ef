use Rattle.spec_desktop.specs.Act.{Connect}
use Rattle.spec_desktop.specs.declared.answers.Done.TheVariants as gave
use Rattle.wl_server.proofs.Histories.{noted-behind, recorded-on}
use Rattle.wl_server.proofs.recorded.Recorded.connect.Goals as goal

pub invariant_of-self : goal.invariant_of-self
invariant_of-self g c =
    recorded-on g.R.Write.contents (Connect) (gave.Connect c.connect-connected.result) c.self.inside.session c.connect-connected.new.self c.self.inside.recording c.settle.new.recording c.note_connect.new.recording
    c.self.invariant c.settle.ensures c.note_connect.ensures c.connect-connected.ensures.course

pub returns-clause-noted : goal.returns-clause-noted
returns-clause-noted g c =
    rw (← c.self.view_is) (noted-behind g.R.Write.contents c.self.inside.session Connect (gave.Connect c.connect-connected.result) c.self.inside.recording c.settle.new.recording c.note_connect.new.recording
    c.settle.ensures c.note_connect.ensures)
