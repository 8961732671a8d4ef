use Rattle.wl_viewer.proofs.Copies.{copies_hold}
use Rattle.wl_viewer.proofs.laws.copies_hold.Goals as goal

pub returns : goal.returns
returns c = copies_hold
