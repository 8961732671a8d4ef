use Rattle.wl_shell.specs.Kept.{kept_popup}
use Rattle.wl_shell.proofs.Books.{changed-if, stayed-err}
use Rattle.wl_shell.proofs.shell.Shell.get_popup.Goals as goal

pub returns-clause-ok : goal.returns-clause-ok
returns-clause-ok g c =
    changed-if c.self.inside.surfaces (c.get_mut.follows.lender c.get_popup.new.self)
    c.args.self.now c.args.surface c.in-Some.xdg_surface.now c.get_popup.new.self c.self.view_is c.in-Some.ensures.value (c.get_mut.follows.holds c.get_popup.new.self) c.get_popup.result
    (λ xdg. kept_popup c.args.popup.now.id xdg c.args.positioner.now c.args.popup.now.number) c.parent_id-parent.result _ c.parent_id-parent.ensures c.get_popup.ensures.ok

pub returns-clause-err : goal.returns-clause-err
returns-clause-err g c =
    stayed-err c.self.inside.surfaces (c.get_mut.follows.lender c.get_popup.new.self)
    c.args.self.now c.args.surface c.in-Some.xdg_surface.now c.get_popup.new.self c.self.view_is c.in-Some.ensures.value (c.get_mut.follows.holds c.get_popup.new.self)
    c.get_popup.result c.get_popup.ensures.err
