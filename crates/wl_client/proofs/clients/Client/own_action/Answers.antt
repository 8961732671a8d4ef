use Rattle.std.proofs.Common.{rules}
use Rattle.wl_client.proofs.clients.Client.own_action.Goals as goal

pub returns-in_default : goal.returns-in_default
returns-in_default g c = search rules
