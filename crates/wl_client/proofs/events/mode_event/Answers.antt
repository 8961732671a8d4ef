use Rattle.std.proofs.Common.{rules}
use Rattle.wl_client.proofs.events.mode_event.Goals as goal

pub returns : goal.returns
returns c = search rules
