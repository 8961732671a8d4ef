use Rattle.std.proofs.Common.{rules}
use Rattle.wl_client.proofs.checks.check_new_id.Goals as goal

pub returns-in_default : goal.returns-in_default
returns-in_default g c = search rules

pub returns-then-not-is_free_id : goal.returns-then-not-is_free_id
returns-then-not-is_free_id g c = search rules

pub returns : goal.returns
returns g c = search rules
