use Rattle.wl_server.proofs.Histories.{recorded-new}
use Rattle.wl_server.proofs.recorded.Recorded.new.Goals as goal

pub invariant_of-result : goal.invariant_of-result
invariant_of-result g c =
    recorded-new g.R.Write.contents c.args.session c.requires.0 c.requires.1 c.args.writer c.new.result c.requires.2 c.new.ensures
