use Rattle.std.proofs.Common.{rules}
use Rattle.wl_store.proofs.accept.is_room.Goals as goal

pub returns-then-from : goal.returns-then-from
returns-then-from c = search rules

pub returns-else-from : goal.returns-else-from
returns-else-from c = search rules
