use Rattle.std.proofs.Common.{rules}
use Rattle.wl_client.proofs.clients.Client.first.Goals as goal

pub returns-in-More : goal.returns-in-More
returns-in-More g c = search rules

pub returns-in-Bad : goal.returns-in-Bad
returns-in-Bad g c = search rules

pub returns-in-Message : goal.returns-in-Message
returns-in-Message g c = search rules
