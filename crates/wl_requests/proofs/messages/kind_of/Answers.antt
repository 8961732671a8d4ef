use Rattle.std.proofs.Common.{rules}
use Rattle.wl_requests.proofs.messages.kind_of.Goals as goal

pub returns-in-XdgToplevel : goal.returns-in-XdgToplevel
returns-in-XdgToplevel c = search rules
