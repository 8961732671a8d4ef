use Rattle.std.proofs.Common.{ap, ◌∙◌}
use Rattle.wl_shell.specs.Kept.{commit_answer, kept_after, kept_of}
use Rattle.wl_shell.proofs.Books.{changed-ok, stayed-err}
use Rattle.wl_shell.proofs.shell.Shell.on_commit.Goals as goal

pub returns-clause-answer : goal.returns-clause-answer
returns-clause-answer g c =
    c.commit.ensures.answer ∙ ap (commit_answer c.args.has_buffer c.args.bounds c.args.parent_at) (c.in-Some.ensures.value ∙ ap (λ book. kept_of book c.args.surface) c.self.view_is)

pub returns-clause-ok : goal.returns-clause-ok
returns-clause-ok g c =
    changed-ok c.self.inside.surfaces (c.get_mut.follows.lender c.commit.new.self) c.args.self.now c.args.surface c.in-Some.xdg_surface.now c.commit.new.self c.self.view_is c.in-Some.ensures.value
    (c.get_mut.follows.holds c.commit.new.self) c.commit.result (kept_after c.args.serial) c.commit.ensures.ok

pub returns-clause-err : goal.returns-clause-err
returns-clause-err g c =
    stayed-err c.self.inside.surfaces (c.get_mut.follows.lender c.commit.new.self) c.args.self.now c.args.surface c.in-Some.xdg_surface.now c.commit.new.self c.self.view_is c.in-Some.ensures.value
    (c.get_mut.follows.holds c.commit.new.self) c.commit.result c.commit.ensures.err
