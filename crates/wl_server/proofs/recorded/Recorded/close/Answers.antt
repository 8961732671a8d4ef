use Rattle.std.proofs.Common.{refl}
use Rattle.spec_desktop.specs.Act.{Close}
use Rattle.spec_desktop.specs.declared.answers.Done.TheVariants as gave
use Rattle.wl_server.proofs.Histories.{noted-silently, recorded-quiet}
use Rattle.wl_server.proofs.recorded.Recorded.close.Goals as goal

pub invariant_of-self : goal.invariant_of-self
invariant_of-self g c =
    recorded-quiet g.R.Write.contents (Close c.args.client) (gave.Close c.close.result) c.self.inside.session c.close.new.self c.self.inside.recording c.settle.new.recording
    c.self.invariant c.settle.ensures (λ d notes. refl) c.close.ensures.course

pub returns-clause-noted : goal.returns-clause-noted
returns-clause-noted g c =
    rw (← c.self.view_is) (noted-silently g.R.Write.contents c.self.inside.session (Close c.args.client) (gave.Close c.close.result) c.self.inside.recording c.settle.new.recording c.settle.ensures (λ d notes. refl))
