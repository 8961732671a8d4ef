use Rattle.wl_shell.proofs.Books.{surface_at}
use Rattle.wl_shell.proofs.shell.Shell.surface_at.Goals as goal

pub returns : goal.returns
returns g c =
    rw (← c.self.view_is) (surface_at c.args.id c.self.inside.surfaces.entries c.find_surface.result c.find_surface.ensures.each c.find_surface.ensures.found)
