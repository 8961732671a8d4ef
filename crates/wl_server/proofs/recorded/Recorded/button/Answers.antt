use Rattle.spec_desktop.specs.Act.{Button}
use Rattle.spec_desktop.specs.declared.answers.Done.TheVariants as gave
use Rattle.wl_server.proofs.Histories.{noted-behind, recorded-on}
use Rattle.wl_server.proofs.recorded.Recorded.button.Goals as goal

pub invariant_of-self : goal.invariant_of-self
invariant_of-self g c =
    recorded-on g.R.Write.contents (Button c.args.time c.args.code c.args.pressed) gave.Button c.self.inside.session c.button.new.self c.self.inside.recording c.settle.new.recording c.note_button.new.recording
    c.self.invariant c.settle.ensures c.note_button.ensures c.button.ensures.course

pub returns-clause-noted : goal.returns-clause-noted
returns-clause-noted g c =
    rw (← c.self.view_is) (noted-behind g.R.Write.contents c.self.inside.session (Button c.args.time c.args.code c.args.pressed) gave.Button c.self.inside.recording c.settle.new.recording c.note_button.new.recording
    c.settle.ensures c.note_button.ensures)
