use Rattle.wl_clients.proofs.Midway as midway
use Rattle.wl_clients.proofs.pointing.mid_names_surfaces.Goals as goal

pub returns : goal.returns
returns c = midway.mid_names_surfaces
