use Rattle.wl_clients.proofs.Midway as midway
use Rattle.wl_clients.proofs.pointing.mid_begins_and_ends.Goals as goal

pub returns : goal.returns
returns c = midway.mid_begins_and_ends
