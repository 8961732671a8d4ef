use Rattle.wl_clients.proofs.Midway as midway
use Rattle.wl_clients.proofs.pointing.mid_is_numbered_once.Goals as goal

pub returns : goal.returns
returns c = midway.mid_is_numbered_once
