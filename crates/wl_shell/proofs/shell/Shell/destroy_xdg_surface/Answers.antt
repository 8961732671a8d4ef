use Rattle.std.proofs.Common.{None}
use Rattle.wl_shell.proofs.Books.{updated}
use Rattle.wl_shell.proofs.shell.Shell.destroy_xdg_surface.Goals as goal

pub returns-clause-ok : goal.returns-clause-ok
returns-clause-ok g c = updated c.self.inside.surfaces c.remove.new.self c.args.self.now c.args.surface None c.self.view_is c.remove.ensures.updates
