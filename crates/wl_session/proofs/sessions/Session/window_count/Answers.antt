use Rattle.std.proofs.Common.{rules}
use Rattle.wl_session.proofs.sessions.Session.window_count.Goals as goal

pub returns-clause-windows : goal.returns-clause-windows
returns-clause-windows g c = search rules
