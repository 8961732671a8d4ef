use Rattle.std.proofs.Common.{refl}
use Rattle.spec_desktop.specs.Act.{Send}
use Rattle.spec_desktop.specs.declared.answers.Done.TheVariants as gave
use Rattle.wl_server.proofs.Histories.{noted-silently, recorded-quiet}
use Rattle.wl_server.proofs.recorded.Recorded.sent.Goals as goal

pub invariant_of-self : goal.invariant_of-self
invariant_of-self g c =
    recorded-quiet g.R.Write.contents (Send c.args.client c.args.count) (gave.Sent c.sent.result) c.self.inside.session c.sent.new.self c.self.inside.recording c.settle.new.recording
    c.self.invariant c.settle.ensures (λ d notes. refl) c.sent.ensures.course

pub returns-clause-noted : goal.returns-clause-noted
returns-clause-noted g c =
    rw (← c.self.view_is) (noted-silently g.R.Write.contents c.self.inside.session (Send c.args.client c.args.count) (gave.Sent c.sent.result) c.self.inside.recording c.settle.new.recording c.settle.ensures (λ d notes. refl))
