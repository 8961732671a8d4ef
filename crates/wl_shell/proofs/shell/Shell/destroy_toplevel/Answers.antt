use Rattle.wl_shell.specs.Kept.{kept_without_role}
use Rattle.wl_shell.proofs.Books.{changed}
use Rattle.wl_shell.proofs.shell.Shell.destroy_toplevel.Goals as goal

pub returns : goal.returns
returns g c =
    changed c.self.inside.surfaces (c.get_mut.follows.lender c.destroy_role.new.self)
    c.args.self.now c.args.surface c.in-Some.xdg_surface.now c.destroy_role.new.self c.self.view_is c.in-Some.ensures.value (c.get_mut.follows.holds c.destroy_role.new.self)
    kept_without_role c.destroy_role.ensures
