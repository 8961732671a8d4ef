use Rattle.std.proofs.Common.{rules}
use Rattle.wl_client.proofs.clients.Client.count.Goals as goal

pub returns-clause-only : goal.returns-clause-only
returns-clause-only g c = search rules

pub returns-clause-counts : goal.returns-clause-counts
returns-clause-counts g c = search rules

pub returns-clause-rest : goal.returns-clause-rest
returns-clause-rest g c = search rules
