use Rattle.wl_shell.specs.declared.popups.Wanted.TheVariants.{Grabbing}
use Rattle.wl_shell.proofs.Picking.{found-as, greatest-by, is-found}
use Rattle.wl_shell.proofs.shell.Shell.newest_grabbing.Goals as goal

pub returns : goal.returns
returns g c =
    let entries = c.self.inside.surfaces.entries in
    rw (← c.self.view_is) (found-as _ _ _ _ c.find_popup.result greatest-by (is-found entries Grabbing c.find_popup.result c.find_popup.ensures.each c.find_popup.ensures.found))
