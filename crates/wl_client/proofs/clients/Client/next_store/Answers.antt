use Rattle.std.proofs.Common.{rules}
use Rattle.wl_client.proofs.clients.Client.next_store.Goals as goal

pub returns-clause-next : goal.returns-clause-next
returns-clause-next g c = search rules
