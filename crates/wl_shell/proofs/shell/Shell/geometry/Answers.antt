use Rattle.wl_shell.specs.Kept.{kept_asking}
use Rattle.wl_shell.proofs.Books.{changed-ok, stayed-err}
use Rattle.wl_shell.proofs.shell.Shell.geometry.Goals as goal

pub returns-clause-ok : goal.returns-clause-ok
returns-clause-ok g c =
    changed-ok c.self.inside.surfaces (c.get_mut.follows.lender c.ask_geometry.new.self)
    c.args.self.now c.args.surface c.in-Some.xdg_surface.now c.ask_geometry.new.self c.self.view_is c.in-Some.ensures.value (c.get_mut.follows.holds c.ask_geometry.new.self) c.ask_geometry.result
    (λ _. kept_asking c.args.rect) c.ask_geometry.ensures.ok

pub returns-clause-err : goal.returns-clause-err
returns-clause-err g c =
    stayed-err c.self.inside.surfaces (c.get_mut.follows.lender c.ask_geometry.new.self)
    c.args.self.now c.args.surface c.in-Some.xdg_surface.now c.ask_geometry.new.self c.self.view_is c.in-Some.ensures.value (c.get_mut.follows.holds c.ask_geometry.new.self)
    c.ask_geometry.result c.ask_geometry.ensures.err
