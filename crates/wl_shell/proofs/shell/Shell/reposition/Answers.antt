use Rattle.std.proofs.Common.{ap, ◌∙◌}
use Rattle.wl_shell.specs.Kept.{kept_of, kept_repositioning, reposition_answer}
use Rattle.wl_shell.proofs.Books.{changed-ok, stayed-err}
use Rattle.wl_shell.proofs.shell.Shell.reposition.Goals as goal

pub returns-clause-answer : goal.returns-clause-answer
returns-clause-answer g c =
    c.reposition.ensures.answer
    ∙ ap (reposition_answer c.args.positioner.now c.args.bounds c.args.parent_at) (c.in-Some.ensures.value ∙ ap (λ book. kept_of book c.args.popup) c.self.view_is)

pub returns-clause-ok : goal.returns-clause-ok
returns-clause-ok g c =
    changed-ok c.self.inside.surfaces (c.get_mut.follows.lender c.reposition.new.self)
    c.args.self.now c.args.popup c.in-Some.xdg_surface.now c.reposition.new.self c.self.view_is c.in-Some.ensures.value (c.get_mut.follows.holds c.reposition.new.self) c.reposition.result
    (λ placed. kept_repositioning placed c.args.serial c.args.positioner.now) c.reposition.ensures.ok

pub returns-clause-err : goal.returns-clause-err
returns-clause-err g c =
    stayed-err c.self.inside.surfaces (c.get_mut.follows.lender c.reposition.new.self)
    c.args.self.now c.args.popup c.in-Some.xdg_surface.now c.reposition.new.self c.self.view_is c.in-Some.ensures.value (c.get_mut.follows.holds c.reposition.new.self)
    c.reposition.result c.reposition.ensures.err
