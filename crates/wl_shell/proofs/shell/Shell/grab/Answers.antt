use Rattle.std.proofs.Common.{Some, ap, ◌∙◌, ◌&&◌}
use Rattle.wl_shell.specs.Kept.{grab_answer, kept_grabbing, kept_of}
use Rattle.wl_shell.specs.PopupsKept.{parent_allows}
use Rattle.wl_shell.proofs.Books.{changed-ok, stayed-err}
use Rattle.wl_shell.proofs.shell.Shell.grab.Goals as goal

pub returns-clause-answer : goal.returns-clause-answer
returns-clause-answer g c =
    let is_allowed = parent_allows c.args.self.now (kept_of c.args.self.now c.args.popup) && c.args.is_allowed in
    c.grab.ensures.answer
    ∙ ap (λ b. grab_answer b (Some c.in-Some.xdg_surface.now)) c.may_grab-is_allowed.ensures
    ∙ ap (grab_answer is_allowed) (c.in-Some.ensures.value ∙ ap (λ book. kept_of book c.args.popup) c.self.view_is)

pub returns-clause-ok : goal.returns-clause-ok
returns-clause-ok g c =
    changed-ok c.self.inside.surfaces (c.get_mut.follows.lender c.grab.new.self)
    c.args.self.now c.args.popup c.in-Some.xdg_surface.now c.grab.new.self c.self.view_is c.in-Some.ensures.value (c.get_mut.follows.holds c.grab.new.self) c.grab.result
    kept_grabbing c.grab.ensures.ok

pub returns-clause-err : goal.returns-clause-err
returns-clause-err g c =
    stayed-err c.self.inside.surfaces (c.get_mut.follows.lender c.grab.new.self)
    c.args.self.now c.args.popup c.in-Some.xdg_surface.now c.grab.new.self c.self.view_is c.in-Some.ensures.value (c.get_mut.follows.holds c.grab.new.self)
    c.grab.result c.grab.ensures.err
