use Rattle.wl_shell.specs.Kept.{kept_changed}
use Rattle.wl_shell.specs.Popups.{dismiss}
use Rattle.wl_shell.proofs.Books.{changed}
use Rattle.wl_shell.proofs.shell.Shell.dismiss_one.Goals as goal

pub returns : goal.returns
returns g c =
    changed c.self.inside.surfaces (c.get_mut.follows.lender c.dismiss.new.self)
    c.args.self.now c.args.surface c.in-Some.xdg_surface.now c.dismiss.new.self c.self.view_is c.in-Some.ensures.value (c.get_mut.follows.holds c.dismiss.new.self)
    (kept_changed dismiss) c.dismiss.ensures
