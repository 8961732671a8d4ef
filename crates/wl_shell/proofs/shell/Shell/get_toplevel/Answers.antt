use Rattle.wl_shell.specs.Kept.{kept_toplevel}
use Rattle.wl_shell.proofs.Books.{changed-ok, stayed-err}
use Rattle.wl_shell.proofs.shell.Shell.get_toplevel.Goals as goal

pub returns-clause-ok : goal.returns-clause-ok
returns-clause-ok g c =
    changed-ok c.self.inside.surfaces (c.get_mut.follows.lender c.get_toplevel.new.self)
    c.args.self.now c.args.surface c.in-Some.xdg_surface.now c.get_toplevel.new.self c.self.view_is c.in-Some.ensures.value (c.get_mut.follows.holds c.get_toplevel.new.self) c.get_toplevel.result
    (λ _. kept_toplevel c.args.id) c.get_toplevel.ensures.ok

pub returns-clause-err : goal.returns-clause-err
returns-clause-err g c =
    stayed-err c.self.inside.surfaces (c.get_mut.follows.lender c.get_toplevel.new.self)
    c.args.self.now c.args.surface c.in-Some.xdg_surface.now c.get_toplevel.new.self c.self.view_is c.in-Some.ensures.value (c.get_mut.follows.holds c.get_toplevel.new.self)
    c.get_toplevel.result c.get_toplevel.ensures.err
