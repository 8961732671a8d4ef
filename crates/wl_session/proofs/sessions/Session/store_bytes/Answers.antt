use Rattle.std.proofs.Common.{rules}
use Rattle.wl_session.proofs.sessions.Session.store_bytes.Goals as goal

pub returns : goal.returns
returns g c = search rules
