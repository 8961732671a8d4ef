use Rattle.wl_clients.proofs.LentPainted.{paints_the_desktop}
use Rattle.wl_clients.proofs.painting.paints_the_desktop.Goals as goal

pub returns : goal.returns
returns c = paints_the_desktop
