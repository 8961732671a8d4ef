use Rattle.wl_session.proofs.Seen.{seen_is_scratch}
use Rattle.wl_session.proofs.laws.seen_is_scratch.Goals as goal

pub returns : goal.returns
returns c = seen_is_scratch
