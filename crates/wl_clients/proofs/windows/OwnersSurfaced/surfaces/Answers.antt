use Rattle.std.proofs.Common.{None, Some}
use Rattle.wl_clients.proofs.Lends.{lends-surfaces}
use Rattle.wl_clients.proofs.windows.OwnersSurfaced.surfaces.Goals as goal

pub returns-in_default : goal.returns-in_default
returns-in_default g c = lends-surfaces c.args.self.now.residents.now c.args.client None c.in_default.ensures

pub returns : goal.returns
returns g c = rw c.states.ensures (lends-surfaces c.args.self.now.residents.now c.args.client (Some c.in-Some.resident.now) c.in-Some.ensures)
