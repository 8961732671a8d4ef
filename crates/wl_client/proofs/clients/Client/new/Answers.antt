use Rattle.std.proofs.Common.{refl}
use Rattle.wl_client.proofs.Peers.{IsPeer-new}
use Rattle.wl_client.proofs.clients.Client.new.Goals as goal

pub returns : goal.returns
returns g c =
    IsPeer-new _ _ _ refl refl refl refl refl c.new.ensures c.new-2.ensures (rw c.new-objects.ensures at c.in-Ok.ensures.ok) (rw c.new-objects.ensures at c.in-Ok.ensures.len)
    c.new-3.ensures.empty c.new-4.ensures.empty c.new-5.ensures.empty c.new-6.ensures.empty c.new-7.ensures refl
