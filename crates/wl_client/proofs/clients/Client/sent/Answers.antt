use Rattle.std.proofs.Common.{rules}
use Rattle.wl_client.proofs.clients.Client.sent.Goals as goal

pub returns-then-count-as_slice-clause-sends : goal.returns-then-count-as_slice-clause-sends
returns-then-count-as_slice-clause-sends g c = search rules

pub returns-then-count-as_slice-clause-table : goal.returns-then-count-as_slice-clause-table
returns-then-count-as_slice-clause-table g c = search rules

pub returns-clause-sends : goal.returns-clause-sends
returns-clause-sends g c = search rules

pub returns-clause-table : goal.returns-clause-table
returns-clause-table g c = search rules
