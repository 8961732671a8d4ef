use Rattle.std.proofs.Common.{rules}
use Rattle.wl_client.proofs.globals.Global.is_bound.Goals as goal

pub returns-then-version-ge1 : goal.returns-then-version-ge1
returns-then-version-ge1 c = search rules

pub returns-else-version-ge1 : goal.returns-else-version-ge1
returns-else-version-ge1 c = search rules
