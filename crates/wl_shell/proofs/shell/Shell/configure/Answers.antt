use Rattle.std.proofs.Common.{ap, ◌∙◌}
use Rattle.wl_shell.specs.Kept.{configure_answer, kept_configured, kept_of}
use Rattle.wl_shell.proofs.Books.{changed-ok, stayed-err}
use Rattle.wl_shell.proofs.shell.Shell.configure.Goals as goal

pub returns-clause-answer : goal.returns-clause-answer
returns-clause-answer g c =
    c.configure.ensures.answer ∙ ap (configure_answer) (c.in-Some.ensures.value ∙ ap (λ book. kept_of book c.args.surface) c.self.view_is)

pub returns-clause-ok : goal.returns-clause-ok
returns-clause-ok g c =
    changed-ok c.self.inside.surfaces (c.get_mut.follows.lender c.configure.new.self)
    c.args.self.now c.args.surface c.in-Some.xdg_surface.now c.configure.new.self c.self.view_is c.in-Some.ensures.value (c.get_mut.follows.holds c.configure.new.self) c.configure.result
    (λ is_sent. kept_configured is_sent c.args.serial) c.configure.ensures.ok

pub returns-clause-err : goal.returns-clause-err
returns-clause-err g c =
    stayed-err c.self.inside.surfaces (c.get_mut.follows.lender c.configure.new.self)
    c.args.self.now c.args.surface c.in-Some.xdg_surface.now c.configure.new.self c.self.view_is c.in-Some.ensures.value (c.get_mut.follows.holds c.configure.new.self)
    c.configure.result c.configure.ensures.err
