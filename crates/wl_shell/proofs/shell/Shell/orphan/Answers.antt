use Rattle.wl_shell.proofs.Books.{orphans}
use Rattle.wl_shell.proofs.shell.Shell.orphan.Goals as goal

pub returns : goal.returns
returns g c =
    orphans c.self.inside.surfaces c.orphan.new.surfaces c.args.self.now c.args.surface c.id-id.result c.in-Some.xdg_surface.now c.self.view_is
    c.in-Some.ensures c.id-id.ensures c.orphan.ensures
