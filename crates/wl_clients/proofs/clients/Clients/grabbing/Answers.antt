use Rattle.spec_desktop.specs.Settling.{unstruck}
use Rattle.wl_clients.proofs.Grabbing.{grabbing-of}
use Rattle.wl_clients.proofs.Midway.{mid_begins_and_ends}
use Rattle.wl_clients.proofs.clients.Clients.grabbing.Goals as goal

pub returns-then-is_grab : goal.returns-then-is_grab
returns-then-is_grab g c =
    λ d r a serials. grabbing-of c.args.latest _ c.args.asked.now c.args.client r d serials (λ asks. c.is_held_elsewhere-held_elsewhere.ensures (unstruck d) ((mid_begins_and_ends _ d).0 a))
