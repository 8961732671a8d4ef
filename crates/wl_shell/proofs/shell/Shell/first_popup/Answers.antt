use Rattle.wl_shell.specs.declared.popups.Wanted.TheVariants.{First}
use Rattle.wl_shell.proofs.Picking.{found-as, is-found, least-by}
use Rattle.wl_shell.proofs.shell.Shell.first_popup.Goals as goal

pub returns : goal.returns
returns g c =
    let entries = c.self.inside.surfaces.entries in
    rw (← c.self.view_is) (found-as _ _ _ _ c.find_popup.result least-by (is-found entries First c.find_popup.result c.find_popup.ensures.each c.find_popup.ensures.found))
