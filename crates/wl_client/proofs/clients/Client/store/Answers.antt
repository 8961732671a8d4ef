use Rattle.std.proofs.Common.{rules}
use Rattle.wl_client.proofs.clients.Client.store.Goals as goal

pub returns-clause-answer : goal.returns-clause-answer
returns-clause-answer g c = search rules

pub returns-clause-table : goal.returns-clause-table
returns-clause-table g c = search rules

pub returns-clause-stored : goal.returns-clause-stored
returns-clause-stored g c = search rules
