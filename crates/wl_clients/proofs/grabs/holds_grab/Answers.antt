use Rattle.wl_clients.proofs.Holders.{nobody-says, somebody-says}
use Rattle.wl_clients.proofs.grabs.holds_grab.Goals as goal

pub returns-in_default : goal.returns-in_default
returns-in_default g c = nobody-says c.args.slot.now c.in_default.is

pub returns : goal.returns
returns g c = somebody-says c.args.slot.now c.in-Some.resident c.has_grab.result c.in-Some.is c.are_found.ensures c.has_grab.ensures
