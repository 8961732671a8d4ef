use Rattle.std.proofs.Common.{rules}
use Rattle.wl_client.proofs.clients.Client.store_bytes.Goals as goal

pub returns : goal.returns
returns g c = search rules
