use Rattle.std.proofs.Common.{rules}
use Rattle.wl_client.proofs.checks.is_free_id.Goals as goal

pub returns-then-id-le-MAX_ID : goal.returns-then-id-le-MAX_ID
returns-then-id-le-MAX_ID g c = search rules

pub returns-else-id-le-MAX_ID : goal.returns-else-id-le-MAX_ID
returns-else-id-le-MAX_ID g c = search rules
