use Rattle.std.proofs.Common.{rules}
use Rattle.wl_client.proofs.wl_display.action.Goals as goal

pub returns-in-GetRegistry : goal.returns-in-GetRegistry
returns-in-GetRegistry c = search rules
